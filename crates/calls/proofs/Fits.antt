-- The table of steps, read once: what holds of each way on, for every step and call. All else is proved from this, by
-- cases on `Effect` and not on the steps. Assumes nothing.
use Prim.Native.Nat.{ℕ, zero, suc, ◌-◌, ◌<◌, max}
use native.Mathlib.Omega.{arith}
use mathlib.Core.Path.{◌≡◌, refl}
use mathlib.Core.Bool.{Bool, true, false, cond, not, ◌&&◌, ◌||◌, beq}
use mathlib.Core.List.{List, [], ◌∷◌}
use lib.Dec.{T, T_not, eqb, ltb, ltb→lt}
use lib.ListN.{length}
use Rattle.fields.proofs.Laws.{and_l, and_r}
use Rattle.calls.specs.Calls.{Request, is_call, is_kind, transaction, manual, receives, transmits, eventful}
use Rattle.calls.specs.Outcomes.{is_done}
use Rattle.calls.specs.Pieces.{Piece, blocks_of, pieces_for, pieces_of, piece_at, view_of}
use Rattle.calls.specs.Steps.{failing, awaited, wait_at, entry_step, clear_step, effect_at, same_step}
use Rattle.calls.specs.Refusals.{has_pieces, Group, any, starts, move, stop, errors, nack, timing, own, second, enable, reset, events, blocks, peOff, peOn, listen, nackSet, reloadOff, manualEvents, group_of, takes_group, group_taken, takes}
use Rattle.calls.specs.declared.Call.{Call}
use Rattle.calls.specs.declared.Call.TheVariants.{New, TargetNew, ConfigureTargetAddresses, Reset, Transaction}
use Rattle.calls.specs.declared.Flag.{Flag}
use Rattle.calls.specs.declared.Flag.TheVariants.{Rxne, Txis, Tc, Tcr, Stopf, Never}
use Rattle.calls.specs.declared.Modify.{Modify}
use Rattle.calls.specs.declared.Modify.TheVariants.{PeOff, PeOn, Listen, NackSet, ReloadOff, SbcOff, ReloadClear, SbcOn, ReloadOn, NbytesSet}
use Rattle.calls.specs.declared.Outcome.{Outcome}
use Rattle.calls.specs.declared.Outcome.TheVariants.{Done, Bus, Arbitration, Nack, Stopped, ExpectedWrite, ExpectedRead, EventRead, EventWrite, EventStop}
use Rattle.calls.specs.declared.SavedCall.{SavedCall}
use Rattle.calls.specs.declared.Step.{Step}
use Rattle.calls.specs.declared.Step.TheVariants.{Ended, Begin, StartStatus, StartControl, Wait, Byte, StopClear, BusClear, ArbitrationClear, NackClear, FlushTxis, FlushByte, FlushTxe, Flush, Timing, Own, Secondary, Enable, Delay1, Delay2, Disabled, Event, EventFlush, EventClear, Address, TransferClear, ModifyRead, ModifyWrite}
use Rattle.calls.specs.declared.Effect.{Effect}
use Rattle.calls.specs.declared.Effect.TheVariants.{Goes, Loads, Notes, Next, Enters, Fails, Ends}
use Rattle.calls.proofs.Logic.{only, only_yes, only_not, only_if, not_and, not_and_1, and_in, or_0, or_1, or_else, nor_0, nor_1, by_test, both}
use Rattle.calls.proofs.Every.{implied, asks, aside}
use Rattle.calls.proofs.Views.{step_of, there_in, last_in, reads_in}

-- the transaction's last byte was moved, or an error is on its way
abbrev pub over : Request → SavedCall → Bool
over q s = failing q.call s || (last_in q s && not (there_in q s))

-- what the last two entries were at a step: the last is a written ICR 0x10 at FLUSH_TXIS and nowhere else, the one before
-- it is at FLUSH_BYTE and is not at BYTE
abbrev pub flush_ok : Step → Bool → Bool → Bool
flush_ok t two one =
    beq one (same_step t FlushTxis) && ((not (same_step t FlushByte) || two) && (not (same_step t Byte) || not two))

-- the steps of an event, before any byte is moved
abbrev pub early : Group → Bool
early any = false
early starts = false
early move = false
early stop = false
early errors = false
early nack = false
early timing = false
early own = false
early second = false
early enable = false
early reset = false
early events = true
early blocks = false
early peOff = false
early peOn = false
early listen = false
early nackSet = false
early reloadOff = false
early manualEvents = true

abbrev pub in_event : Step → Bool
in_event t = early (group_of t)

-- an event by which the target was addressed
abbrev pub is_event : Outcome → Bool
is_event (Done n) = false
is_event Bus = false
is_event Arbitration = false
is_event Nack = false
is_event Stopped = false
is_event ExpectedWrite = false
is_event ExpectedRead = false
is_event (EventRead n) = true
is_event (EventWrite n) = true
is_event EventStop = false

-- no BYTE, STOP_CLEAR or ENDED, which are entered for a reason
abbrev pub plain : Step → Bool
plain u = not (same_step u Byte) && (not (same_step u StopClear) && not (same_step u Ended))

-- why the call may go on so: what is known of the bytes, the event and the outcome
abbrev pub Why : Request → SavedCall → Step → Effect → Type 0
Why q s t (Goes u) =
    only (same_step u Byte) (T (there_in q s)) × only (same_step u StopClear && transaction q.call) (T (over q s)) × T (not (same_step u Ended))
Why q s t (Loads u) = T (plain u)
Why q s t (Notes o u) = T (plain u) × T (in_event t)
Why q s t (Next u) = T (not (there_in q s)) × T (not (last_in q s)) × T (plain u) × T (not (in_event u))
Why q s t (Enters u) = T (in_event t) × T (plain u)
Why q s t (Fails o) = T (not (is_done o)) × T (not (is_event o))
Why q s t (Ends o) =
    only (is_done o && transaction q.call) (T (same_step t StopClear) × (o ≡ s.outcome)) × only (is_event o) (o ≡ s.outcome)

-- the writes that can follow one another from a step on, its own among them: none where it reads, and BYTE as where it
-- writes
abbrev modify_rank : Modify → ℕ
modify_rank PeOff = 5
modify_rank PeOn = 1
modify_rank Listen = 1
modify_rank NackSet = 1
modify_rank ReloadOff = 1
modify_rank SbcOff = 1
modify_rank ReloadClear = 3
modify_rank SbcOn = 1
modify_rank ReloadOn = 2
modify_rank NbytesSet = 2

abbrev pub rank : Step → ℕ
rank Ended = 0
rank Begin = 1
rank StartStatus = 0
rank StartControl = 0
rank Wait = 0
rank Byte = 2
rank StopClear = 1
rank BusClear = 1
rank ArbitrationClear = 1
rank NackClear = 1
rank FlushTxis = 0
rank FlushByte = 1
rank FlushTxe = 0
rank Flush = 1
rank Timing = 4
rank Own = 3
rank Secondary = 2
rank Enable = 1
rank Delay1 = 0
rank Delay2 = 0
rank Disabled = 0
rank Event = 0
rank EventFlush = 3
rank EventClear = 2
rank Address = 0
rank TransferClear = 1
rank (ModifyRead m) = 0
rank (ModifyWrite m) = modify_rank m

-- a step that reads leads anywhere, one that writes to a lower rank
abbrev pub below : Step → Step → Bool
below t u = eqb (rank t) 0 || ltb (rank u) (rank t)

-- a step after a step: the flush of a NACK stays in order, none leads back into the event, and writes come to an end
abbrev pub edge_ok : Step → Step → Bool
edge_ok t u = flush_ok u (same_step t FlushTxis) (same_step t NackClear) && ((not (in_event u) || in_event t) && below t u)

pub from_event : (t u : Step) → T (edge_ok t u) → only (in_event u) (T (in_event t))
from_event t u e =
    only_if (in_event u) (in_event t)
    (and_l (not (in_event u) || in_event t) (below t u) (and_r (flush_ok u (same_step t FlushTxis) (same_step t NackClear)) _ e))

pub lower : (t u : Step) → T (edge_ok t u) → T (below t u)
lower t u e = and_r (not (in_event u) || in_event t) (below t u) (and_r (flush_ok u (same_step t FlushTxis) (same_step t NackClear)) _ e)

pub record Fits (q : Request) (s : SavedCall) (t : Step) (n : Effect) : Type 0 where
  pub taken : T (takes q (step_of n))
  pub edge : T (edge_ok t (step_of n))
  pub why : Why q s t n

-- ---- what one group of steps says of another
ruleset logic = (and_in, or_0, or_1, and_l, and_r, nor_0, nor_1)

module _ (q : Request) where
  pub move_some : T (takes_group q move) → T (has_pieces q)
  unfolding group_taken
  move_some h = search and_r

  move_target : T (takes_group q move) → T (not (transaction q.call)) → T (receives q.call || transmits q.call)
  unfolding group_taken
  move_target h n = or_else (transaction q.call) (receives q.call || transmits q.call) (search and_l) n

  errors_move : T (takes_group q errors) → T (transaction q.call) → T (takes_group q move)
  unfolding group_taken is_call is_kind
  errors_move h x = or_else (eventful q.call) _ h (implied q (λ r. transaction r.call) (λ r. not (eventful r.call)) tt x)

  timing_in_holds : T (takes_group q peOff && not (is_call q.call Reset)) → T (takes_group q timing)
  unfolding group_taken is_call
  timing_in_holds = implied q (λ r. takes_group r peOff && not (is_call r.call Reset)) (λ r. takes_group r timing) tt

  own_in : T (takes_group q own) → T (is_call q.call New || (is_call q.call TargetNew || is_call q.call ConfigureTargetAddresses))
  unfolding group_taken is_call
  own_in = implied q (λ r. takes_group r own) (λ r. is_call r.call New || (is_call r.call TargetNew || is_call r.call ConfigureTargetAddresses)) tt

-- all pieces of a target call go its way
pub block_reads : (w : Bool) (f n i : ℕ) → i < length (blocks_of w f n) → (piece_at (blocks_of w f n) i).reads ≡ w
block_reads w zero n i h = absurd (omega arith)
block_reads w (suc f) zero i h = absurd (omega arith)
block_reads w (suc f) (suc n) zero h = refl
block_reads w (suc f) (suc n) (suc i) h = block_reads w f (suc n - 255) i (omega arith)

unfoldable pub AllRead : Request → List Piece → Type 0
AllRead q ps = (i : ℕ) → i < length ps → (piece_at ps i).reads ≡ receives q.call

one_reads : (q : Request) → AllRead q (record { size = q.size; reads = receives q.call } ∷ [])
unfolding AllRead
one_reads q zero h = refl
one_reads q (suc i) h = absurd (omega arith)

pub all_read : (q : Request) → T (not (transaction q.call)) → AllRead q (pieces_of q)
unfolding AllRead pieces_for
all_read q n =
    by_test (AllRead q) (transaction q.call) (λ x. absurd (T_not (transaction q.call) n x)) (λ _.
    by_test (AllRead q) (receives q.call || transmits q.call) (λ _.
    by_test (AllRead q) (manual q.call) (λ _. block_reads (receives q.call) q.size q.size) (λ _. one_reads q))
    (λ _ i h. absurd (omega arith)))

-- ---- the flag that WAIT awaits, and what it says
abbrev Flagged : Request → SavedCall → Flag → Type 0
Flagged q s Rxne = T (there_in q s)
Flagged q s Txis = T (there_in q s) × T (not (reads_in q s))
Flagged q s Tc = T (transaction q.call) × T (not (there_in q s)) × T (not (last_in q s))
Flagged q s Tcr = T (transaction q.call) × T (not (there_in q s)) × T (not (last_in q s))
Flagged q s Stopf = T (transaction q.call) × T (over q s)
Flagged q s Never = T (not (transaction q.call))

flagged : (q : Request) (s : SavedCall) → Flagged q s (awaited q.call (view_of q s) s)
flagged q s = search (by_test (Flagged q s), logic) depth 16

-- into a piece, by each of the three steps that it may begin with; past the flush of an event, by either step
entry : (c : Call) (P : Step → Type 0) → P Begin → P (ModifyRead NbytesSet) → P Wait → P (entry_step c)
entry c P x y z = by_test P (transaction c) (λ _. x) (λ _. by_test P (manual c) (λ _. y) (λ _. z))

entry_taken : (q : Request) → T (takes_group q move) → T (takes q (entry_step q.call))
unfolding group_taken
entry_taken q h =
    by_test (λ (u : Step). T (takes q u)) (transaction q.call) (λ x. search logic) (λ n.
    let w = move_target q h n in
    by_test (λ (u : Step). T (takes q u)) (manual q.call) (λ m. search logic) (λ _. h))

clear : (c : Call) (P : Step → Type 0) → (T (manual c) → P (ModifyRead SbcOff)) → P EventClear → P (clear_step c)
clear c P x y = by_test P (manual c) x (λ _. y)

-- ---- the ways on: a test leads to one of two, and each comes with its step, its edge and its reason
module _ {q : Request} {s : SavedCall} {t : Step} where
  test : (c : Bool) {x y : Effect} → (T c → Fits q s t x) → (T (not c) → Fits q s t y) → Fits q s t (cond c x y)
  test = by_test (Fits q s t)

  way : (n : Effect) → T (takes q (step_of n)) → T (edge_ok t (step_of n)) → Why q s t n → Fits q s t n
  way n h e w = record { taken = h; edge = e; why = w }

  -- ways with several reasons, taken apart: `search` comes to a pair last
  goes : (u : Step) → T (takes q u) → T (edge_ok t u) → T (plain u) → Fits q s t (Goes u)
  goes u h e p = way (Goes u) h e (search (only_not, not_and, and_l, and_r))

  notes : (o : Outcome) (u : Step) → T (takes q u) → T (edge_ok t u) → T (plain u) → T (in_event t) → Fits q s t (Notes o u)
  notes o u h e p i = way (Notes o u) h e (p, i)

  fails : (o : Outcome) → T (takes_group q move) → T (edge_ok t Wait) → T (not (is_done o)) → T (not (is_event o)) → Fits q s t (Fails o)
  fails o h e d n = way (Fails o) h e (d, n)

  ends : (o : Outcome) → T (edge_ok t Ended) → only (is_done o && transaction q.call) (T (same_step t StopClear) × (o ≡ s.outcome)) →
      only (is_event o) (o ≡ s.outcome) → Fits q s t (Ends o)
  unfolding group_taken
  ends o e d n = way (Ends o) tt e (d, n)

  nexts : T (takes_group q move) → T (not (there_in q s)) → T (not (last_in q s)) →
      T (edge_ok t Begin) → T (edge_ok t (ModifyRead NbytesSet)) → T (edge_ok t Wait) → Fits q s t (Next (entry_step q.call))
  nexts h n l e f g =
      way (Next (entry_step q.call)) (entry_taken q h) (entry q.call (λ (u : Step). T (edge_ok t u)) e f g)
      (n, l, entry q.call (λ (u : Step). T (plain u)) tt tt tt, entry q.call (λ (u : Step). T (not (in_event u))) tt tt tt)

  enters : T (takes_group q move) → T (in_event t) →
      T (edge_ok t Begin) → T (edge_ok t (ModifyRead NbytesSet)) → T (edge_ok t Wait) → Fits q s t (Enters (entry_step q.call))
  enters h i e f g =
      way (Enters (entry_step q.call)) (entry_taken q h) (entry q.call (λ (u : Step). T (edge_ok t u)) e f g)
      (i, entry q.call (λ (u : Step). T (plain u)) tt tt tt)

  clears : (n : Step → Effect) → ((u : Step) → T (takes q u) → T (edge_ok t u) → T (plain u) → Fits q s t (n u)) →
      T (takes_group q events) → T (edge_ok t (ModifyRead SbcOff)) → T (edge_ok t EventClear) → Fits q s t (n (clear_step q.call))
  unfolding group_taken
  clears n f h e g =
      f (clear_step q.call) (clear q.call (λ (u : Step). T (takes q u)) (λ m. search logic) h)
      (clear q.call (λ (u : Step). T (edge_ok t u)) (λ _. e) g) (clear q.call (λ (u : Step). T (plain u)) (λ _. tt) tt)

  goes_clear : T (takes_group q events) → T (edge_ok t (ModifyRead SbcOff)) → T (edge_ok t EventClear) → Fits q s t (Goes (clear_step q.call))
  goes_clear = clears Goes goes

  notes_clear : (o : Outcome) → T (in_event t) → T (takes_group q events) → T (edge_ok t (ModifyRead SbcOff)) → T (edge_ok t EventClear) →
      Fits q s t (Notes o (clear_step q.call))
  notes_clear o i = clears (Notes o) (λ u h e p. way (Notes o u) h e (p, i))

ruleset table = (test, way, goes, notes, fails, ends, nexts, enters, goes_clear, notes_clear, only_yes, only_not, not_and, not_and_1, logic, tt)

-- ---- the table, for a piece of the call's (a call with none counts as having one)
abbrev pub Inside : Request → SavedCall → Type 0
Inside q s = s.piece < max 1 (length (pieces_of q))

module _ (q : Request) (s : SavedCall) (a : ℕ) where
  -- so a piece that does not read has the steps of NACK
  writes_nack : Inside q s → T (takes_group q move) → T (not (reads_in q s)) → T (takes_group q nack)
  unfolding group_taken AllRead
  writes_nack p h r =
      let z : 0 < length (pieces_of q) = ltb→lt 0 (length (pieces_of q)) (move_some q h) in
      both (transaction q.call) (λ x. search logic) (λ n.
      let r' = rw (all_read q n s.piece (omega arith)) at r in
      let w = or_else (receives q.call) _ (move_target q h n) r' in search logic)

  waits : (f : Flag) → Inside q s → T (takes_group q move) → Flagged q s f → Fits q s Wait (wait_at q.call (view_of q s) s a f)
  unfolding group_taken
  waits Rxne p w h = search table depth 16
  waits Txis p w h = search (table, writes_nack) depth 16
  waits Tc p w h = search table depth 16
  waits Tcr p w h = search table depth 16
  waits Stopf p w h = search table depth 16
  waits Never p w h = search (table, writes_nack) depth 16

  -- EVENT_CLEAR asks twice who acknowledges
  not_both : (t : Step) (n : Effect) → T (manual q.call) → T (not (manual q.call)) → Fits q s t n
  not_both t n h g = absurd (T_not (manual q.call) g h)

  -- by the last premise it is no transaction, where a transaction takes no step of the group
  row : (t : Step) → Inside q s → T (not (same_step t Ended)) → T (takes q t) →
      T (takes_group (asks q Transaction) (group_of t) || not (transaction q.call)) → Fits q s t (effect_at q.call q.words (view_of q s) s a t)
  unfolding group_taken is_call is_kind manual
  row Ended p h k o = absurd h
  row Begin p h k o = search table depth 16
  row StartStatus p h k o = search table depth 16
  row StartControl p h k o = search table depth 16
  row Wait p h k o = let w = waits (awaited q.call (view_of q s) s) p k (flagged q s) in search table depth 16
  row Byte p h k o = test (transaction q.call || there_in q s) (λ _. search table) (λ n. search table depth 16)
  row StopClear p h k o = search table depth 16
  row BusClear p h k o = search (table, errors_move) depth 16
  row ArbitrationClear p h k o = search (table, errors_move) depth 16
  row NackClear p h k o = search table depth 16
  row FlushTxis p h k o = search table depth 16
  row FlushByte p h k o = search table depth 16
  row FlushTxe p h k o = search table depth 16
  row Flush p h k o = search table depth 16
  row Timing p h k o = search table depth 16
  row Own p h k o = search (table, own_in) depth 16
  row Secondary p h k o = search table depth 16
  row Enable p h k o = search table depth 16
  row Delay1 p h k o = search table depth 16
  row Delay2 p h k o = search table depth 16
  row Disabled p h k o = search table depth 16
  row Event p h k o = search table depth 16
  row EventFlush p h k o = search table depth 16
  row EventClear p h k o = search (table, not_both EventClear) depth 16
  row Address p h k o = search table depth 16
  row TransferClear p h k o = search table depth 16
  row (ModifyRead PeOff) p h k o = search table depth 16
  row (ModifyRead PeOn) p h k o = search table depth 16
  row (ModifyRead Listen) p h k o = search table depth 16
  row (ModifyRead NackSet) p h k o = search table depth 16
  row (ModifyRead ReloadOff) p h k o = search table depth 16
  row (ModifyRead SbcOff) p h k o = search table depth 16
  row (ModifyRead ReloadClear) p h k o = search table depth 16
  row (ModifyRead SbcOn) p h k o = search table depth 16
  row (ModifyRead ReloadOn) p h k o = search table depth 16
  row (ModifyRead NbytesSet) p h k o = search table depth 16
  row (ModifyWrite PeOff) p h k o = search (table, timing_in_holds) depth 16
  row (ModifyWrite PeOn) p h k o = search table depth 16
  row (ModifyWrite Listen) p h k o = search table depth 16
  row (ModifyWrite NackSet) p h k o = search table depth 16
  row (ModifyWrite ReloadOff) p h k o = search table depth 16
  row (ModifyWrite SbcOff) p h k o = search table depth 16
  row (ModifyWrite ReloadClear) p h k o = let e = and_r (manual q.call) (eventful q.call) k in search table depth 16
  row (ModifyWrite SbcOn) p h k o = search table depth 16
  row (ModifyWrite ReloadOn) p h k o = let e = and_r (manual q.call) (eventful q.call) k in search table depth 16
  row (ModifyWrite NbytesSet) p h k o = search table depth 16

  pub fits : (t : Step) → Inside q s → T (not (same_step t Ended)) → T (takes q t) → Fits q s t (effect_at q.call q.words (view_of q s) s a t)
  fits t p h k = row t p h k (aside q (group_of t) k)
