-- The refusals of a call and of a saved call: document 01's table, rows 12, 8, 10, 11 and 13 in that order; row 9 went out of
-- use with document 02, R-1. The first row that fits is given. Words that do not belong to the call are not looked at. Assumes
-- nothing.
use Rattle.std.specs.Prelude.{ℕ, ◌+◌, max, Bool, true, false, cond, not, ◌&&◌, ◌||◌, List, [], ◌∷◌, eqb, ltb, leb, length, Option, Some, None, Result, Ok, Err}
use Rattle.fields.specs.Field.{place, get_of}
use Rattle.calls.specs.Calls.{Request, call_number, is_call, transaction, manual, manual_write, receives, transmits, eventful, is_configured, has_secondary}
use Rattle.calls.specs.Pieces.{operation_length, pieces_of, most_of, view_at, view_of, byte_there}
use Rattle.calls.specs.Steps.{same_step}
use Rattle.calls.specs.declared.Ack.TheVariants.{AutoAck, ManualAck}
use Rattle.calls.specs.declared.AddressMode.{AddressMode}
use Rattle.calls.specs.declared.AddressMode.TheVariants.{AddressMode7bit, AddressMode10bit}
use Rattle.calls.specs.declared.Call.{Call}
use Rattle.calls.specs.declared.Call.TheVariants.{New, TargetNew, ConfigureTargetAddresses, EnableTargetEvent, DisableTargetEvent, Reset, Transaction, WaitForEvent, Read, Write, WaitForTargetRead, WaitForTargetWrite, WaitForStop, AckTransfer, NackTransfer}
use Rattle.calls.specs.declared.Description.{Description}
use Rattle.calls.specs.declared.Modify.{Modify}
use Rattle.calls.specs.declared.Modify.TheVariants.{PeOff, PeOn, Listen, NackSet, ReloadOff, SbcOff, ReloadClear, SbcOn, ReloadOn, NbytesSet}
use Rattle.calls.specs.declared.Refusal.TheVariants.{NoSuchCall, Address, List as BadList, Buffer}
use Rattle.calls.specs.declared.SavedCall.{SavedCall}
use Rattle.calls.specs.declared.Step.{Step}
use Rattle.calls.specs.declared.Step.TheVariants.{Ended, Begin, StartStatus, StartControl, Wait, Byte, StopClear, BusClear, ArbitrationClear, NackClear, FlushTxis, FlushByte, FlushTxe, Flush, Timing, Own, Secondary as SecondaryStep, Enable, Delay1, Delay2, Disabled, Event, EventFlush, EventClear, Address as FindAddress, TransferClear, ModifyRead, ModifyWrite}
use Rattle.calls.specs.declared.Refusal.{Refusal}
use Rattle.calls.specs.declared.TargetConfig.{TargetConfig}

-- the listed call of a number
abbrev pub listed : List Call
listed =
    New ∷ TargetNew ∷ ConfigureTargetAddresses ∷ EnableTargetEvent ∷ DisableTargetEvent ∷ Reset ∷ Transaction
    ∷ WaitForEvent AutoAck ∷ Read AutoAck ∷ Write AutoAck ∷ WaitForTargetRead AutoAck ∷ WaitForTargetWrite AutoAck ∷ WaitForStop AutoAck
    ∷ AckTransfer ∷ NackTransfer
    ∷ WaitForEvent ManualAck ∷ Read ManualAck ∷ Write ManualAck ∷ WaitForTargetRead ManualAck ∷ WaitForTargetWrite ManualAck ∷ WaitForStop ManualAck
    ∷ []

abbrev pub lookup_in : List Call → ℕ → Option Call
lookup_in [] n = None
lookup_in (c ∷ cs) n = cond (eqb n (call_number c)) (Some c) (lookup_in cs n)

unfoldable pub lookup_of : ℕ → Option Call
lookup_of n = lookup_in listed n

-- 12, no such call: the number is not listed, calls 4 and 5 name none of the three listen kinds, or 2 and 3 have no
-- configuration
abbrev pub no_such_listen_kind : Call → Description → Bool
no_such_listen_kind c d = (is_call c EnableTargetEvent || is_call c DisableTargetEvent) && ltb 2 d.listen

abbrev pub no_configuration : Call → Description → Bool
no_configuration c d = (is_call c TargetNew || is_call c ConfigureTargetAddresses) && not (is_configured d.config)

abbrev pub no_such_call : Call → Description → Bool
no_such_call c d = no_such_listen_kind c d || no_configuration c d

-- 8, address: one that does not fit its seven or ten bits, or a mask of more than six bits
abbrev pub widest : AddressMode → ℕ
widest AddressMode7bit = 127
widest AddressMode10bit = 1023

abbrev pub too_wide : AddressMode → ℕ → Bool
too_wide mode address = ltb (widest mode) address

abbrev pub secondary_wide : Option ℕ → Bool
secondary_wide None = false
secondary_wide (Some address) = too_wide AddressMode7bit address

abbrev pub mask_wide : Option ℕ → Bool
mask_wide None = false
mask_wide (Some bits) = ltb 6 bits

abbrev pub config_wide : Option TargetConfig → Bool
config_wide None = false
config_wide (Some t) = too_wide t.mode t.own || (secondary_wide t.secondary || mask_wide t.mask)

abbrev pub address_wide : Call → Description → Bool
address_wide c d =
    (transaction c && too_wide d.mode d.address)
    || ((is_call c New || (is_call c TargetNew || is_call c ConfigureTargetAddresses)) && config_wide d.config)

-- 10, list: more than 64 operations, a word with bits that mean nothing, or lengths that do not make up the buffer
abbrev pub length_of : ℕ → ℕ
length_of o = get_of o operation_length

abbrev pub total : List ℕ → ℕ
total [] = 0
total (o ∷ os) = length_of o + total os

abbrev pub any_of : (ℕ → Bool) → List ℕ → Bool
any_of f [] = false
any_of f (o ∷ os) = f o || any_of f os

abbrev pub strange_bits : ℕ → Bool
strange_bits o = not (eqb (get_of o (place 17 15)) 0)

abbrev pub list_wrong : Call → List ℕ → ℕ → Bool
list_wrong c ops n = transaction c && (ltb 64 (length ops) || (any_of strange_bits ops || not (eqb (total ops) n)))

-- 11, buffer: an AutoAck transfer without a byte to move, or more bytes than sixteen bits count
abbrev pub buffer_wrong : Call → ℕ → Bool
buffer_wrong c n = (((receives c || transmits c) && not (manual c)) && eqb n 0) || ltb 65535 n

unfoldable pub verdict_of : Request → Result Call Refusal
verdict_of q =
    cond (no_such_call q.call q.words) (Err NoSuchCall)
    (cond (address_wide q.call q.words) (Err Address)
    (cond (list_wrong q.call q.operations q.size) (Err BadList)
    (cond (buffer_wrong q.call q.size) (Err Buffer)
    (Ok q.call))))

abbrev pub request_of : Call → Description → List ℕ → ℕ → Request
request_of c d ops n = record { call = c; words = d; operations = ops; size = n }

-- what begin and advance both look at: description, operation list, the lent buffer's length
abbrev pub verdict_by : Option Call → Description → List ℕ → ℕ → Result Call Refusal
verdict_by (Some c) d ops n = verdict_of (request_of c d ops n)
verdict_by None d ops n = Err NoSuchCall

unfoldable pub check_of : Description → List ℕ → ℕ → Result Call Refusal
check_of d ops n = verdict_by (lookup_of d.call) d ops n

-- ---- 13, saved call: its number is not the described call's; or it has not ended and stands at a step that this call never
-- takes, at a piece that is not there (a call without pieces counts as having an empty one), at a byte number that no run
-- reaches, at BYTE with no byte to move or, in a manual write, with more bytes put out than it counts (document 02, R-6)

-- the steps by groups
pub data Group : Type 0 where
  any starts move stop errors nack timing own second enable reset events blocks peOff peOn listen nackSet reloadOff manualEvents : Group

abbrev pub modify_group : Modify → Group
modify_group PeOff = peOff
modify_group PeOn = peOn
modify_group Listen = listen
modify_group NackSet = nackSet
modify_group ReloadOff = reloadOff
modify_group SbcOff = manualEvents
modify_group ReloadClear = manualEvents
modify_group SbcOn = manualEvents
modify_group ReloadOn = manualEvents
modify_group NbytesSet = blocks

abbrev pub group_of : Step → Group
group_of Ended = any
group_of Begin = starts
group_of StartStatus = starts
group_of StartControl = starts
group_of Wait = move
group_of Byte = move
group_of StopClear = stop
group_of BusClear = errors
group_of ArbitrationClear = errors
group_of NackClear = nack
group_of FlushTxis = nack
group_of FlushByte = nack
group_of FlushTxe = nack
group_of Flush = nack
group_of Timing = timing
group_of Own = own
group_of SecondaryStep = second
group_of Enable = enable
group_of Delay1 = reset
group_of Delay2 = reset
group_of Disabled = reset
group_of Event = events
group_of EventFlush = events
group_of EventClear = events
group_of FindAddress = events
group_of TransferClear = blocks
group_of (ModifyRead m) = modify_group m
group_of (ModifyWrite m) = modify_group m

-- which groups a call takes; a call with no piece takes no step that moves bytes
unfoldable pub group_taken : Call → Description → Bool → Group → Bool
group_taken c d nonempty any = true
group_taken c d nonempty starts = transaction c && nonempty
group_taken c d nonempty move = (transaction c || (receives c || transmits c)) && nonempty
group_taken c d nonempty stop = eventful c || (transaction c && nonempty)
group_taken c d nonempty errors = eventful c || ((transaction c || (receives c || transmits c)) && nonempty)
group_taken c d nonempty nack = (transaction c || transmits c) && nonempty
group_taken c d nonempty timing = is_call c New || is_call c TargetNew
group_taken c d nonempty own = is_call c ConfigureTargetAddresses || ((is_call c New || is_call c TargetNew) && is_configured d.config)
group_taken c d nonempty second = (is_call c New || (is_call c TargetNew || is_call c ConfigureTargetAddresses)) && has_secondary d.config
group_taken c d nonempty enable = is_call c New
group_taken c d nonempty reset = is_call c Reset
group_taken c d nonempty events = eventful c
group_taken c d nonempty blocks = (manual c && (receives c || transmits c)) && nonempty
group_taken c d nonempty peOff = is_call c New || (is_call c TargetNew || is_call c Reset)
group_taken c d nonempty peOn = is_call c TargetNew || is_call c Reset
group_taken c d nonempty listen = is_call c EnableTargetEvent || is_call c DisableTargetEvent
group_taken c d nonempty nackSet = is_call c NackTransfer || ((receives c && not (manual c)) && nonempty)
group_taken c d nonempty reloadOff = is_call c AckTransfer || is_call c NackTransfer
group_taken c d nonempty manualEvents = manual c && eventful c

-- the call has a piece
abbrev pub has_pieces : Request → Bool
has_pieces q = (view_at (pieces_of q) (most_of q) 0).nonempty

abbrev pub takes_group : Request → Group → Bool
takes_group q g = group_taken q.call q.words (has_pieces q) g

abbrev pub takes : Request → Step → Bool
takes q t = takes_group q (group_of t)

unfoldable pub accepts : Request → SavedCall → Bool
accepts q s =
    eqb s.call (call_number q.call) &&
    (same_step s.step Ended ||
    (takes q s.step &&
    (ltb s.piece (max 1 (length (pieces_of q))) &&
    (leb s.byte ((view_of q s).size + 1) &&
    ((not (same_step s.step Byte) || byte_there q.call (view_of q s) s) &&
    (not (manual_write q.call) || leb s.out (most_of q)))))))
