-- What every call does, one register access at a time: the access of each step, and what each answer leads to.
-- Sections of document 01 are named at the tables; registers, fields and flags are RM0492's. Assumes nothing.
use Rattle.std.specs.Prelude.{ℕ, ◌+◌, ◌-◌, ◌*◌, min, Bool, true, false, cond, not, ◌&&◌, ◌||◌, List, [], ◌∷◌, ◌++◌, map, eqb, ltb, get_or}
use Rattle.fields.specs.Field.{Place, place, get_of, flag_of, mark_of}
use Rattle.registers.specs.Map.{reset_of}
use Rattle.registers.specs.Places.{CR1_PE, CR1_ANFOFF, CR2_START, OAR1_OA1MODE, OAR1_OA1, ISR_TXE, ISR_TXIS, ISR_RXNE, ISR_ADDR, ISR_NACKF, ISR_STOPF, ISR_TC, ISR_TCR, ISR_BERR, ISR_ARLO, ISR_DIR, ISR_ADDCODE, ICR_ADDRCF, ICR_NACKCF, ICR_STOPCF, ICR_BERRCF, ICR_ARLOCF}
use Rattle.registers.specs.declared.Register.TheVariants.{Cr1, Cr2, Oar1, Oar2, Timingr, Isr, Icr, Txdr}
use Rattle.calls.specs.Calls.{Request, call_number, is_call, is_kind, transaction, manual, receives, transmits, eventful, is_configured, has_secondary}
use Rattle.calls.specs.Outcomes.{is_done, is_event_read, outcome_value, readdressed}
use Rattle.calls.specs.Pieces.{pieces_of, most_of, view_at, view_of, byte_there}
use Rattle.calls.specs.Words.{cr2_of, timingr_of, oar1_of, oar2_of, register_of, alter_of}
use Rattle.calls.specs.declared.Call.{Call}
use Rattle.calls.specs.declared.Description.{Description}
use Rattle.calls.specs.declared.Modify.{Modify}
use Rattle.calls.specs.declared.Modify.TheVariants.{PeOff, PeOn, Listen, NackSet, ReloadOff, SbcOff, ReloadClear, SbcOn, ReloadOn, NbytesSet}
use Rattle.calls.specs.declared.Step.{Step}
use Rattle.calls.specs.declared.Step.TheVariants.{Ended, Begin, StartStatus, StartControl, Wait, Byte, StopClear, BusClear, ArbitrationClear, NackClear, FlushTxis, FlushByte, FlushTxe, Flush, Timing, Own, Secondary, Enable, Delay1, Delay2, Disabled, Event, EventFlush, EventClear, Address, TransferClear, ModifyRead, ModifyWrite}
use Rattle.calls.specs.declared.Outcome.{Outcome}
use Rattle.calls.specs.declared.Outcome.TheVariants.{Done, Bus, Arbitration, Nack, Stopped, ExpectedWrite, ExpectedRead, EventRead, EventWrite, EventStop}
use Rattle.calls.specs.declared.Access.{Access}
use Rattle.calls.specs.declared.Access.TheVariants.{Read, Take, Write, Nothing}
use Rattle.calls.specs.declared.Flag.{Flag}
use Rattle.calls.specs.declared.Flag.TheVariants.{Rxne, Txis, Tc, Tcr, Stopf, Never}
use Rattle.calls.specs.declared.Effect.{Effect}
use Rattle.calls.specs.declared.Effect.TheVariants.{Goes, Loads, Notes, Next, Enters, Fails, Ends}
use Rattle.calls.specs.declared.SavedCall.{SavedCall}
use Rattle.calls.specs.declared.View.{View}
use Rattle.calls.specs.declared.Call.TheVariants.{New, TargetNew, ConfigureTargetAddresses, EnableTargetEvent, DisableTargetEvent, Reset, WaitForEvent, WaitForStop, AckTransfer, NackTransfer}

-- ---- The access of each step

-- plain writes: ICR with one flag to clear; ISR with TXE, which empties TXDR; CR1 with the peripheral and its filter on
abbrev pub clears : Place → Access
clears p = Write Icr (mark_of (reset_of Icr) p true)

abbrev pub flushes : Access
flushes = Write Isr (mark_of (reset_of Isr) ISR_TXE true)

abbrev pub enables : Access
enables = Write Cr1 (mark_of (mark_of (reset_of Cr1) CR1_PE true) CR1_ANFOFF false)

-- the byte to put out: the buffer's, or a filling zero
abbrev pub byte_out : View → List ℕ → SavedCall → ℕ
byte_out v b s = cond (ltb s.byte v.size) (get_or b (v.start + s.byte) 0) 0

abbrev pub byte_access : View → List ℕ → SavedCall → Access
byte_access v b s = cond v.reads (Take (v.start + s.byte)) (Write Txdr (byte_out v b s))

abbrev pub access_at : Call → Description → View → List ℕ → SavedCall → Step → Access
access_at c d v b s Ended = Nothing
access_at c d v b s Begin = Write Cr2 (cr2_of d v (not (eqb s.piece 0)))
access_at c d v b s StartStatus = Read Isr
access_at c d v b s StartControl = Read Cr2
access_at c d v b s Wait = Read Isr
access_at c d v b s Byte = byte_access v b s
access_at c d v b s StopClear = clears ICR_STOPCF
access_at c d v b s BusClear = clears ICR_BERRCF
access_at c d v b s ArbitrationClear = clears ICR_ARLOCF
access_at c d v b s NackClear = clears ICR_NACKCF
access_at c d v b s FlushTxis = Read Isr
access_at c d v b s FlushByte = Write Txdr 0
access_at c d v b s FlushTxe = Read Isr
access_at c d v b s Flush = flushes
access_at c d v b s Timing = Write Timingr (timingr_of c d)
access_at c d v b s Own = Write Oar1 (oar1_of d.config)
access_at c d v b s Secondary = Write Oar2 (oar2_of d.config)
access_at c d v b s Enable = enables
access_at c d v b s Delay1 = Read Cr1
access_at c d v b s Delay2 = Read Cr1
access_at c d v b s Disabled = Read Cr1
access_at c d v b s Event = Read Isr
access_at c d v b s EventFlush = flushes
access_at c d v b s EventClear = clears ICR_ADDRCF
access_at c d v b s Address = Read Oar1
access_at c d v b s TransferClear = clears ICR_ADDRCF
access_at c d v b s (ModifyRead m) = Read (register_of d m)
access_at c d v b s (ModifyWrite m) = Write (register_of d m) (alter_of c d v s.word m)

unfoldable pub access_of : Request → List ℕ → SavedCall → Access
access_of q b s = access_at q.call q.words (view_of q s) b s s.step

-- ---- What follows (`a` is the answer to a read)

-- Errors come before all else that a status word says, BERR before ARLO (section "Leaves").
abbrev pub error_or : ℕ → Effect → Effect
error_or a t = cond (flag_of a ISR_BERR) (Goes BusClear) (cond (flag_of a ISR_ARLO) (Goes ArbitrationClear) t)

abbrev pub nack_or : ℕ → Effect → Effect
nack_or a t = cond (flag_of a ISR_NACKF) (Goes NackClear) t

-- The first error of a transaction is kept while it waits for STOPF, an error in that wait takes its place and ends it
-- (section "Transaction"). Any error ends another call at once.
abbrev pub failing : Call → SavedCall → Bool
failing c s = transaction c && not (is_done s.outcome)

abbrev pub fail_of : Call → SavedCall → Outcome → Effect
fail_of c s o = cond (transaction c && is_done s.outcome) (Fails o) (Ends o)

-- The bytes that a target has put out, held at the buffer's length + 1: a manual write carries their number, an automatic one is
-- one piece, whose byte number it is (document 02, R-6).
abbrev pub bytes_put : Call → SavedCall → ℕ
bytes_put c s = cond (manual c) s.out s.byte

-- The bytes that a target transfer counts: of a read all that came in, since all earlier blocks are whole; of a write one less than
-- were put out, at least 0 and, as they are held, at most the buffer's length.
abbrev pub count_of : Call → SavedCall → ℕ
count_of c s = cond (receives c) (255 * s.piece + s.byte) (bytes_put c s - 1)

-- An automatic read sets NACK in CR2 once it is full or was stopped (section "Target side").
abbrev pub transfer_over : Call → SavedCall → Effect
transfer_over c s = cond (receives c && not (manual c)) (Goes (ModifyRead NackSet)) (Ends (Done (count_of c s)))

abbrev pub not_acknowledged : Call → SavedCall → Effect
not_acknowledged c s = cond (transaction c) (fail_of c s Nack) (transfer_over c s)

-- into a piece: a transaction writes CR2, a manual transfer sets NBYTES, an automatic one just waits
abbrev pub entry_step : Call → Step
entry_step c = cond (transaction c) Begin (cond (manual c) (ModifyRead NbytesSet) Wait)

-- from an event into the transfer, if there is any piece
abbrev pub transfer_of : Call → Bool → Effect
transfer_of c nonempty = cond nonempty (Enters (entry_step c)) (Ends (Done 0))

-- What a complete event means to each call (section "Target side"): 8 reports it, 12 goes on from a read and 11 from a write,
-- 13 ends at a stop; every other event is the wrong one.
abbrev pub event_of : Call → Bool → SavedCall → Effect
event_of c nonempty s =
    cond (is_kind c WaitForEvent) (Ends s.outcome)
    (cond (is_event_read s.outcome) (cond (transmits c) (transfer_of c nonempty) (Ends ExpectedWrite))
    (cond (receives c) (transfer_of c nonempty) (Ends ExpectedRead)))

abbrev pub stop_event : Call → Effect
stop_event c = cond (is_kind c WaitForEvent) (Ends EventStop) (cond (is_kind c WaitForStop) (Ends (Done 0)) (Ends Stopped))

-- ManualAck clears ADDR now if the controller reads; if it writes, byte control is set up first (section "Target side").
abbrev pub address_found : Call → Bool → SavedCall → Effect
address_found c nonempty s =
    cond (manual c)
    (cond (is_event_read s.outcome) (Goes EventClear) (Goes (ModifyRead SbcOn)))
    (event_of c nonempty s)

-- A ten-bit header, 0x78 under the mask 0x7C, has 30 in bits 2 to 6 of ADDCODE; whether it is one, OAR1 says.
abbrev pub ten_bit_header : ℕ → Bool
ten_bit_header code = eqb (get_of code (place 2 5)) 30

abbrev pub find_address : Call → Bool → SavedCall → Effect
find_address c nonempty s = cond (ten_bit_header (outcome_value s.outcome)) (Goes Address) (address_found c nonempty s)

-- An address match with a byte left in TXDR empties it first. Then AutoAck clears ADDR, ManualAck clears SBC.
abbrev pub clear_step : Call → Step
clear_step c = cond (manual c) (ModifyRead SbcOff) EventClear

abbrev pub address_event : Call → ℕ → Outcome → Effect
address_event c a o = cond (flag_of a ISR_TXE) (Notes o (clear_step c)) (Notes o EventFlush)

abbrev pub event_in : Call → ℕ → Effect
event_in c a =
    error_or a
    (cond (flag_of a ISR_ADDR)
    (cond (flag_of a ISR_DIR) (address_event c a (EventRead (get_of a ISR_ADDCODE))) (address_event c a (EventWrite (get_of a ISR_ADDCODE))))
    (cond (flag_of a ISR_STOPF) (Goes StopClear) (Goes Event)))

-- The flag that WAIT awaits: STOPF after an error; for a byte RXNE or TXIS; at an operation's end STOPF after the last, TCR
-- before one of the same direction, else TC.
abbrev pub awaited : Call → View → SavedCall → Flag
awaited c v s =
    cond (failing c s) Stopf
    (cond (byte_there c v s) (cond v.reads Rxne Txis)
    (cond (transaction c) (cond v.last Stopf (cond v.same Tcr Tc))
    Never))

-- A byte that came in is taken before a stop or a new address is looked at, and NACKF not at all (section "Leaves").
abbrev pub stop_or : Call → SavedCall → ℕ → Effect
stop_or c s a =
    cond (flag_of a ISR_STOPF || flag_of a ISR_ADDR)
    (cond (transaction c) (fail_of c s Stopped) (transfer_over c s))
    (Goes Wait)

abbrev pub goes_if : Bool → Step → Effect
goes_if flag t = cond flag (Goes t) (Goes Wait)

abbrev pub next_if : Bool → Effect
next_if flag = cond flag (Next Begin) (Goes Wait)

-- NACKF is looked at before TXIS, and before the flag of every wait at an operation's end (section "Leaves").
abbrev pub wait_at : Call → View → SavedCall → ℕ → Flag → Effect
wait_at c v s a Rxne = cond (flag_of a ISR_RXNE) (Goes Byte) (stop_or c s a)
wait_at c v s a Txis = nack_or a (goes_if (flag_of a ISR_TXIS) Byte)
wait_at c v s a Tc = nack_or a (next_if (flag_of a ISR_TC))
wait_at c v s a Tcr = nack_or a (next_if (flag_of a ISR_TCR))
wait_at c v s a Stopf = nack_or a (goes_if (flag_of a ISR_STOPF) StopClear)
wait_at c v s a Never = cond v.reads (stop_or c s a) (nack_or a (Goes Wait))

-- a byte was moved (and is counted in s): wait for the next, or go into the next block, or end
abbrev pub byte_moved : Call → View → SavedCall → Effect
byte_moved c v s =
    cond (transaction c || byte_there c v s) (Goes Wait)
    (cond v.last (transfer_over c s) (Next (entry_step c)))

-- after the own addresses, or without them: call 1 enables, call 2 too but by a modify, call 3 is done
abbrev pub own_then : Call → Effect
own_then c = cond (is_call c New) (Goes Enable) (cond (is_call c TargetNew) (Goes (ModifyRead PeOn)) (Ends (Done 0)))

abbrev pub written_at : Call → View → SavedCall → Modify → Effect
written_at c v s PeOff = cond (is_call c Reset) (Goes Delay1) (Goes Timing)
written_at c v s PeOn = Ends (Done 0)
written_at c v s Listen = Ends (Done 0)
written_at c v s NackSet = cond (is_call c NackTransfer) (Goes (ModifyRead ReloadOff)) (Ends (Done (count_of c s)))
written_at c v s ReloadOff = Ends (Done 0)
written_at c v s SbcOff = Goes (ModifyRead ReloadClear)
written_at c v s ReloadClear = find_address c v.nonempty s
written_at c v s SbcOn = Goes (ModifyRead ReloadOn)
written_at c v s ReloadOn = event_of c v.nonempty s
written_at c v s NbytesSet = cond (eqb s.piece 0) (Goes TransferClear) (Goes Wait)

-- What the answer leads to. At BYTE the byte is counted in s already, at ADDRESS the address is noted.
abbrev pub effect_at : Call → Description → View → SavedCall → ℕ → Step → Effect
effect_at c d v s a Ended = Ends s.outcome
effect_at c d v s a Begin = Goes StartStatus
effect_at c d v s a StartStatus = error_or a (nack_or a (Goes StartControl))
effect_at c d v s a StartControl = cond (flag_of a CR2_START) (Goes StartStatus) (Goes Wait)
effect_at c d v s a Wait = error_or a (wait_at c v s a (awaited c v s))
effect_at c d v s a Byte = byte_moved c v s
effect_at c d v s a StopClear = cond (transaction c) (Ends s.outcome) (stop_event c)
effect_at c d v s a BusClear = fail_of c s Bus
effect_at c d v s a ArbitrationClear = fail_of c s Arbitration
effect_at c d v s a NackClear = Goes FlushTxis
effect_at c d v s a FlushTxis = cond (flag_of a ISR_TXIS) (Goes FlushByte) (Goes FlushTxe)
effect_at c d v s a FlushByte = Goes FlushTxe
effect_at c d v s a FlushTxe = cond (flag_of a ISR_TXE) (not_acknowledged c s) (Goes Flush)
effect_at c d v s a Flush = not_acknowledged c s
effect_at c d v s a Timing = cond (is_configured d.config) (Goes Own) (own_then c)
effect_at c d v s a Own = cond (has_secondary d.config) (Goes Secondary) (own_then c)
effect_at c d v s a Secondary = own_then c
effect_at c d v s a Enable = Ends (Done 0)
effect_at c d v s a Delay1 = Goes Delay2
effect_at c d v s a Delay2 = Goes Disabled
effect_at c d v s a Disabled = cond (flag_of a CR1_PE) (Goes Disabled) (Goes (ModifyRead PeOn))
effect_at c d v s a Event = event_in c a
effect_at c d v s a EventFlush = Goes (clear_step c)
effect_at c d v s a EventClear = cond (manual c) (event_of c v.nonempty s) (find_address c v.nonempty s)
effect_at c d v s a Address = address_found c v.nonempty s
effect_at c d v s a TransferClear = Goes Wait
effect_at c d v s a (ModifyRead m) = Loads (ModifyWrite m)
effect_at c d v s a (ModifyWrite m) = written_at c v s m

-- ---- The saved call after a step

-- one more access, held at the counter's end
abbrev pub one_more : ℕ → ℕ
one_more n = min (n + 1) 4294967295

abbrev pub saved_at : SavedCall → Step → ℕ → ℕ → ℕ → ℕ → Outcome → ℕ → SavedCall
saved_at s t i j m w o n =
    record {
      call = s.call;
      piece = i;
      byte = j;
      out = m;
      word = w;
      accesses = n;
      outcome = o;
      step = t;
    }

-- on to a step with what is on its way then
abbrev pub goes_to : SavedCall → Step → Outcome → SavedCall
goes_to s t o = saved_at s t s.piece s.byte s.out s.word o (one_more s.accesses)

abbrev pub apply_of : SavedCall → ℕ → Effect → SavedCall
apply_of s a (Goes t) = goes_to s t s.outcome
apply_of s a (Loads t) = saved_at s t s.piece s.byte s.out a s.outcome (one_more s.accesses)
apply_of s a (Notes o t) = goes_to s t o
apply_of s a (Next t) = saved_at s t (s.piece + 1) 0 s.out s.word s.outcome (one_more s.accesses)
apply_of s a (Enters t) = saved_at s t 0 0 0 s.word (Done 0) (one_more s.accesses)
apply_of s a (Fails o) = goes_to s Wait o
apply_of s a (Ends o) = goes_to s Ended o

-- a number for each step, our own
abbrev pub modify_number : Modify → ℕ
modify_number PeOff = 0
modify_number PeOn = 1
modify_number Listen = 2
modify_number NackSet = 3
modify_number ReloadOff = 4
modify_number SbcOff = 5
modify_number ReloadClear = 6
modify_number SbcOn = 7
modify_number ReloadOn = 8
modify_number NbytesSet = 9

abbrev pub step_number : Step → ℕ
step_number Ended = 0
step_number Begin = 1
step_number StartStatus = 2
step_number StartControl = 3
step_number Wait = 4
step_number Byte = 5
step_number StopClear = 6
step_number BusClear = 7
step_number ArbitrationClear = 8
step_number NackClear = 9
step_number FlushTxis = 10
step_number FlushByte = 11
step_number FlushTxe = 12
step_number Flush = 13
step_number Timing = 14
step_number Own = 15
step_number Secondary = 16
step_number Enable = 17
step_number Delay1 = 18
step_number Delay2 = 19
step_number Disabled = 20
step_number Event = 21
step_number EventFlush = 22
step_number EventClear = 23
step_number Address = 24
step_number TransferClear = 25
step_number (ModifyRead m) = 26 + modify_number m
step_number (ModifyWrite m) = 36 + modify_number m

-- and all of them, each at the place that its number says
abbrev pub modifies : List Modify
modifies = PeOff ∷ PeOn ∷ Listen ∷ NackSet ∷ ReloadOff ∷ SbcOff ∷ ReloadClear ∷ SbcOn ∷ ReloadOn ∷ NbytesSet ∷ []

abbrev pub steps : List Step
steps =
    Ended ∷ Begin ∷ StartStatus ∷ StartControl ∷ Wait ∷ Byte ∷ StopClear ∷ BusClear ∷ ArbitrationClear ∷ NackClear
    ∷ FlushTxis ∷ FlushByte ∷ FlushTxe ∷ Flush ∷ Timing ∷ Own ∷ Secondary ∷ Enable ∷ Delay1 ∷ Delay2 ∷ Disabled
    ∷ Event ∷ EventFlush ∷ EventClear ∷ Address ∷ TransferClear
    ∷ map ModifyRead modifies ++ map ModifyWrite modifies

abbrev pub same_step : Step → Step → Bool
same_step t u = eqb (step_number t) (step_number u)

-- What a step notes first: BYTE counts its byte, in the piece, held at its length + 1, and as put out; ADDRESS keeps the address.
abbrev pub counted : View → SavedCall → SavedCall
counted v s =
    saved_at s s.step s.piece (min (s.byte + 1) (v.size + 1)) (min (s.out + 1) v.most) s.word s.outcome s.accesses

-- Once OAR1 is read, its OA1 is the address only if its OA1MODE is 1; otherwise ADDCODE, the value of the event on its way, is (document 02, R-5).
abbrev pub own_or : ℕ → ℕ → ℕ
own_or code a = cond (flag_of a OAR1_OA1MODE) (get_of a OAR1_OA1) code

abbrev pub found : SavedCall → ℕ → SavedCall
found s a = saved_at s s.step s.piece s.byte s.out s.word (readdressed s.outcome (own_or (outcome_value s.outcome) a)) s.accesses

abbrev pub noted : View → SavedCall → ℕ → Step → SavedCall
noted v s a t = cond (same_step t Byte) (counted v s) (cond (same_step t Address) (found s a) s)

abbrev pub after_in : Call → Description → View → SavedCall → ℕ → SavedCall
after_in c d v s a =
    let s' : SavedCall = noted v s a s.step in
    apply_of s' a (effect_at c d v s' a s.step)

unfoldable pub after_of : Request → SavedCall → ℕ → SavedCall
after_of q s a = after_in q.call q.words (view_of q s) s a

-- ---- Begin

-- a saved call of that number that nothing was done for
abbrev pub fresh_at : ℕ → Step → SavedCall
fresh_at n t =
    record {
      call = n;
      piece = 0;
      byte = 0;
      out = 0;
      word = 0;
      accesses = 0;
      outcome = Done 0;
      step = t;
    }

abbrev pub start_at : Call → Step → SavedCall
start_at c t = fresh_at (call_number c) t

-- Without a piece a transaction and a manual 9 or 10 have ended as done before any access.
abbrev pub begin_at : Call → Bool → Step
begin_at c nonempty =
    cond (is_call c New || (is_call c TargetNew || is_call c Reset)) (ModifyRead PeOff)
    (cond (is_call c ConfigureTargetAddresses) Own
    (cond (is_call c EnableTargetEvent || is_call c DisableTargetEvent) (ModifyRead Listen)
    (cond (is_call c AckTransfer) (ModifyRead ReloadOff)
    (cond (is_call c NackTransfer) (ModifyRead NackSet)
    (cond (eventful c) Event
    (cond nonempty (entry_step c) Ended))))))

unfoldable pub begin_of : Request → SavedCall
begin_of q = start_at q.call (begin_at q.call (view_at (pieces_of q) (most_of q) 0).nonempty)
