-- The numbers of a run are words: of a saved call that begin gives or that a run over answers of 32 bits comes to, as
-- `read_written` asks, and of the entries that the run makes; and the buffer's are bytes still. `begin_words` and
-- `run_in_range` are the theorems. Assumes nothing.
use Rattle.std.specs.Prelude.{Option, Some, None, Ok}
use Prim.Native.Nat.{ℕ, zero, suc, ◌-◌, ◌≤◌, ◌<◌}
use native.Mathlib.Omega.{arith}
use mathlib.Core.Path.{◌≡◌, refl}
use mathlib.Core.Bool.{Bool, true, false, cond, not, ◌||◌}
use mathlib.Core.List.{List, [], ◌∷◌}
use lib.Dec.{T, eqb, eqb→eq, ltb, ltb→lt, lit<}
use lib.ListN.{length, get_or, set}
use Rattle.fields.proofs.Laws.{and_l, get_lt, put_lt}
use Rattle.fields.specs.Field.{get_of, flag_of}
use Rattle.registers.specs.Map.{offset_of}
use Rattle.registers.specs.Places.{ISR_ADDCODE, OAR1_OA1MODE, OAR1_OA1}
use Rattle.registers.specs.declared.Register.{Register}
use Rattle.registers.specs.declared.Register.TheVariants.{Cr1, Cr2, Oar1, Oar2, Timingr, Isr, Icr, Rxdr, Txdr}
use Rattle.calls.proofs.AlreadyCut.{list_few, list_short}
use Rattle.calls.proofs.Accepted.{known, notes_well, known_after, accepted_after}
use Rattle.calls.proofs.Along.{made, no_access}
use Rattle.calls.proofs.Every.{every}
use Rattle.calls.proofs.Fit.{Fit, accepted_fit}
use Rattle.calls.proofs.Logic.{by_test, both}
use Rattle.calls.proofs.Views.{noted_in, then_in, after_noted}
use Rattle.calls.specs.Calls.{Request, call_number, transaction, manual, receives, transmits, manual_write}
use Rattle.calls.specs.Outcomes.{outcome_value, readdressed, is_event_read}
use Rattle.calls.specs.Pieces.{Piece, piece_at, blocks_of, pieces_for, pieces_of, most_for, most_of, view_of}
use Rattle.calls.specs.Refusals.{request_of, check_of, accepts}
use Rattle.calls.specs.Run.{byte_of, turn_of, advance_from}
use Rattle.calls.specs.Steps.{access_at, access_of, after_of, apply_of, awaited, begin_of, count_of, same_step, own_or, noted, effect_at, wait_at}
use Rattle.calls.specs.Words.{addressed, cr2_of, timingr_of, own_word, secondary_word, oar1_of, oar2_of, alter_of}
use Rattle.calls.specs.declared.Access.{Access}
use Rattle.calls.specs.declared.Access.TheVariants.{Read, Take, Write, Nothing}
use Rattle.calls.specs.declared.AddressMode.{AddressMode}
use Rattle.calls.specs.declared.AddressMode.TheVariants.{AddressMode7bit, AddressMode10bit}
use Rattle.calls.specs.declared.Call.{Call}
use Rattle.calls.specs.declared.Description.{Description}
use Rattle.calls.specs.declared.Flag.{Flag}
use Rattle.calls.specs.declared.Flag.TheVariants.{Rxne, Txis, Tc, Tcr, Stopf, Never}
use Rattle.calls.specs.declared.Modify.{Modify}
use Rattle.calls.specs.declared.Modify.TheVariants.{PeOff, PeOn, Listen, NackSet, ReloadOff, SbcOff, ReloadClear, SbcOn, ReloadOn, NbytesSet}
use Rattle.calls.specs.declared.Outcome.{Outcome}
use Rattle.calls.specs.declared.SavedCall.{SavedCall}
use Rattle.calls.specs.declared.Step.{Step}
use Rattle.calls.specs.declared.Step.TheVariants.{Ended, Begin, StartStatus, StartControl, Wait, Byte, StopClear, BusClear, ArbitrationClear, NackClear, FlushTxis, FlushByte, FlushTxe, Flush, Timing, Own, Secondary, Enable, Delay1, Delay2, Disabled, Event, EventFlush, EventClear, Address, TransferClear, ModifyRead, ModifyWrite}
use Rattle.calls.specs.declared.Effect.{Effect}
use Rattle.calls.specs.declared.Effect.TheVariants.{Goes, Loads, Notes, Next, Enters, Fails, Ends}
use Rattle.calls.specs.declared.View.{View}
use Rattle.words.proofs.Round.{below_at}
use Rattle.words.specs.Words.{Below}
use Rattle.saved.specs.Range.{OfWords, InRange, RunInRange}
use Rattle.calls.specs.declared.TargetConfig.{TargetConfig}

abbrev word : ℕ
word = 4294967296

no_word : 0 < word
no_word = lit< tt

one_word : 1 < word
one_word = lit< tt

-- ---- the pieces of an accepted call are few, and none is large; nor does it count many bytes as put out
pub record Small (most : ℕ) (ps : List Piece) : Type 0 where
  pub most_small : most ≤ 65536
  pub few : length ps ≤ 65535
  pub size : (i : ℕ) → (piece_at ps i).size ≤ 65535

few_blocks : (w : Bool) (f n : ℕ) → length (blocks_of w f n) ≤ f
few_blocks w zero n = omega arith
few_blocks w (suc f) zero = omega arith
few_blocks w (suc f) (suc n) = omega (arith, few_blocks w f (suc n - 255))

small_block : (w : Bool) (f n i : ℕ) → (piece_at (blocks_of w f n) i).size ≤ 65535
small_block w zero n i = omega arith
small_block w (suc f) zero i = omega arith
small_block w (suc f) (suc n) zero = omega arith
small_block w (suc f) (suc n) (suc i) = small_block w f (suc n - 255) i

small_transfer : (n : ℕ) (w : Bool) (i : ℕ) → n ≤ 65535 → (piece_at (record { size = n; reads = w } ∷ []) i).size ≤ 65535
small_transfer n w zero h = h
small_transfer n w (suc i) h = omega arith

small_pieces : (c : Call) (ops : List ℕ) (n : ℕ) → Fit c ops n → Small (most_for c n) (pieces_for c ops n)
unfolding pieces_for
small_pieces c ops n f =
    by_test P (transaction c)
    (λ t. record { most_small = most; few = omega (arith, f.few t, f.sum t, f.size, list_few ops); size = λ i. omega (arith, list_short ops i) })
    (λ _.
    by_test P (receives c || transmits c)
    (λ _.
    by_test P (manual c)
    (λ _. record { most_small = most; few = omega (arith, f.size, few_blocks (receives c) n n); size = small_block (receives c) n n })
    (λ _. record { most_small = most; few = omega arith; size = λ i. small_transfer n (receives c) i f.size }))
    (λ _. record { most_small = most; few = omega arith; size = λ i. omega arith }))
  where
    P : List Piece → Type 0
    P ps = Small (most_for c n) ps

    most : most_for c n ≤ 65536
    most = by_test (λ (m : ℕ). m ≤ 65536) (manual_write c) (λ _. omega (arith, f.size)) (λ _. omega arith)

abbrev pub SmallFor : Request → Type 0
SmallFor q = Small (most_of q) (pieces_of q)

pub accepted_small : (c : Call) (d : Description) (ops : List ℕ) (n : ℕ) → check_of d ops n ≡ Ok c → SmallFor (request_of c d ops n)
accepted_small c d ops n e = small_pieces c ops n (accepted_fit c d ops n e)

-- ---- the value of the outcome that an answer leads to
abbrev Value : Effect → Type 0
Value (Goes t) = Unit {0}
Value (Loads t) = Unit {0}
Value (Notes o t) = outcome_value o < word
Value (Next t) = Unit {0}
Value (Enters t) = Unit {0}
Value (Fails o) = outcome_value o < word
Value (Ends o) = outcome_value o < word

record Valued (n : Effect) : Type 0 where
  value : Value n

either : (c : Bool) {x y : Effect} → (T c → Valued x) → (T (not c) → Valued y) → Valued (cond c x y)
either = by_test Valued

code : (a : ℕ) → get_of a ISR_ADDCODE < word
code a = omega (arith, get_lt a ISR_ADDCODE)

ruleset valued = (either, code, no_word, tt)

module _ (c : Call) (d : Description) (v : View) (s : SavedCall) (a : ℕ) (old : outcome_value s.outcome < word) (count : count_of c s < word) where
  waited : (f : Flag) → Valued (wait_at c v s a f)
  waited Rxne = search valued depth 16
  waited Txis = search valued depth 16
  waited Tc = search valued depth 16
  waited Tcr = search valued depth 16
  waited Stopf = search valued depth 16
  waited Never = search valued depth 16

  led_to : (t : Step) → Valued (effect_at c d v s a t)
  led_to Ended = search
  led_to Begin = search tt
  led_to StartStatus = search valued depth 16
  led_to StartControl = search valued depth 16
  led_to Wait = (let w = waited (awaited c v s) in search valued depth 16)
  led_to Byte = search valued depth 16
  led_to StopClear = search valued depth 16
  led_to BusClear = search valued depth 16
  led_to ArbitrationClear = search valued depth 16
  led_to NackClear = search tt
  led_to FlushTxis = search valued depth 16
  led_to FlushByte = search tt
  led_to FlushTxe = search valued depth 16
  led_to Flush = search valued depth 16
  led_to Timing = search valued depth 16
  led_to Own = search valued depth 16
  led_to Secondary = search valued depth 16
  led_to Enable = search no_word
  led_to Delay1 = search tt
  led_to Delay2 = search tt
  led_to Disabled = search valued depth 16
  led_to Event = search valued depth 16
  led_to EventFlush = search tt
  led_to EventClear = search valued depth 16
  led_to Address = search valued depth 16
  led_to TransferClear = search tt
  led_to (ModifyRead m) = search tt
  led_to (ModifyWrite PeOff) = search valued depth 16
  led_to (ModifyWrite PeOn) = search no_word
  led_to (ModifyWrite Listen) = search no_word
  led_to (ModifyWrite NackSet) = search valued depth 16
  led_to (ModifyWrite ReloadOff) = search no_word
  led_to (ModifyWrite SbcOff) = search tt
  led_to (ModifyWrite ReloadClear) = search valued depth 16
  led_to (ModifyWrite SbcOn) = search tt
  led_to (ModifyWrite ReloadOn) = search valued depth 16
  led_to (ModifyWrite NbytesSet) = search valued depth 16

-- ---- the word that an access writes
abbrev Written : Access → Type 0
Written (Read r) = Unit {0}
Written (Take i) = Unit {0}
Written (Write r x) = x < word
Written Nothing = Unit {0}

one_of : (c : Bool) (x y : ℕ) → x < word → y < word → cond c x y < word
one_of true x y h g = h
one_of false x y h g = g

byte_at : (b : List ℕ) (i : ℕ) → Below 256 b → get_or b i 0 < word
byte_at b i h = omega (arith, below_at 256 b i h (lit< tt))

ruleset put = (put_lt, one_of, no_word, one_word)

addressed_below : (m : AddressMode) (address : ℕ) (again : Bool) (w : ℕ) → w < word → addressed m address again w < word
addressed_below AddressMode7bit address again w h = search put
addressed_below AddressMode10bit address again w h = search put

own_below : (m : AddressMode) (own : ℕ) → own_word m own < word
own_below AddressMode7bit own = search put
own_below AddressMode10bit own = search put

secondary_below : (a : Option ℕ) (m : Option ℕ) → secondary_word a m < word
secondary_below None m = no_word
secondary_below (Some address) None = search put
secondary_below (Some address) (Some bits) = search put

oar1_below : (t : Option TargetConfig) → oar1_of t < word
unfolding oar1_of
oar1_below None = no_word
oar1_below (Some t) = own_below t.mode t.own

oar2_below : (t : Option TargetConfig) → oar2_of t < word
unfolding oar2_of
oar2_below None = no_word
oar2_below (Some t) = secondary_below t.secondary t.mask

module _ (c : Call) (d : Description) (v : View) (b : List ℕ) (s : SavedCall) (bytes : Below 256 b) (w : s.word < word) where
  alters : (m : Modify) → alter_of c d v s.word m < word
  unfolding alter_of
  alters PeOff = search put
  alters PeOn = search put depth 9
  alters Listen = search put depth 9
  alters NackSet = search put
  alters ReloadOff = search put
  alters SbcOff = search put
  alters ReloadClear = search put
  alters SbcOn = search put
  alters ReloadOn = search put
  alters NbytesSet = search put

  writes : (t : Step) → Written (access_at c d v b s t)
  unfolding cr2_of timingr_of
  writes Ended = tt
  writes Begin = search (put, addressed_below) depth 12
  writes StartStatus = tt
  writes StartControl = tt
  writes Wait = tt
  writes Byte = by_test Written v.reads (λ _. tt) (λ _. search (byte_at, one_of, no_word))
  writes StopClear = search put
  writes BusClear = search put
  writes ArbitrationClear = search put
  writes NackClear = search put
  writes FlushTxis = tt
  writes FlushByte = no_word
  writes FlushTxe = tt
  writes Flush = search put
  writes Timing = search put depth 12
  writes Own = oar1_below d.config
  writes Secondary = oar2_below d.config
  writes Enable = search put
  writes Delay1 = tt
  writes Delay2 = tt
  writes Disabled = tt
  writes Event = tt
  writes EventFlush = search put
  writes EventClear = search put
  writes Address = tt
  writes TransferClear = search put
  writes (ModifyRead m) = tt
  writes (ModifyWrite m) = alters m

-- ---- the saved call after an access

-- its number is that of a listed call
listed_below : (c : Call) → call_number c < word
listed_below c = ltb→lt (call_number c) word (every (λ c. ltb (call_number c) word) tt c)

call_below : (q : Request) (s : SavedCall) → T (accepts q s) → s.call < word
unfolding accepts
call_below q s h =
    let e : s.call ≡ call_number q.call = eqb→eq _ _ (and_l (eqb s.call (call_number q.call)) _ h) in
    rw e (listed_below q.call)

-- the numbers that row 13 does not bound: what a step notes first, BYTE its byte and ADDRESS the address, keeps them words
record Others (s : SavedCall) : Type 0 where
  out_below : s.out < word
  word_below : s.word < word
  accesses_below : s.accesses < word
  value_below : outcome_value s.outcome < word

found_below : (o : Outcome) (a : ℕ) → outcome_value o < word → outcome_value (readdressed o (own_or (outcome_value o) a)) < word
found_below o a old =
    let h = one_of (flag_of a OAR1_OA1MODE) (get_of a OAR1_OA1) (outcome_value o) (omega (arith, get_lt a OAR1_OA1)) old in
    by_test (λ (x : Outcome). outcome_value x < word) (is_event_read o) (λ _. h) (λ _. h)

notes : (v : View) (s : SavedCall) (a : ℕ) (t : Step) → v.most ≤ 65536 → OfWords s → Others (noted v s a t)
notes v s a t m h = by_test Others (same_step t Byte) (λ _. search arith) (λ _. by_test Others (same_step t Address) (λ _. search found_below) (λ _. search))

-- and so does what it leads to
applied : (s : SavedCall) (a : ℕ) (n : Effect) → Others s → a < word → Valued n → Others (apply_of s a n)
applied s a (Goes t) m g f = search arith
applied s a (Loads t) m g f = search arith
applied s a (Notes o t) m g f = search arith
applied s a (Next t) m g f = search arith
applied s a (Enters t) m g f = search arith
applied s a (Fails o) m g f = search arith
applied s a (Ends o) m g f = search arith

count_below : (c : Call) (s : SavedCall) → s.piece ≤ 65535 → s.byte ≤ 65536 → s.out < word → count_of c s < word
count_below c s h g k =
    by_test P (receives c) (λ _. omega arith) (λ _. by_test (λ (x : ℕ). x - 1 < word) (manual c) (λ _. omega arith) (λ _. omega arith))
  where
    P : ℕ → Type 0
    P x = x < word

module _ (q : Request) (small : SmallFor q) where
  words_after : (s : SavedCall) (a : ℕ) → T (accepts q s) → T (not (same_step s.step Ended)) → OfWords s → a < word → OfWords (after_of q s a)
  words_after s a h n w g =
      let k = known q s h n in
      let s' : SavedCall = noted_in q s a in
      let m = notes_well q s a s.step k in
      let m' = notes (view_of q s) s a s.step small.most_small w in
      let k' = known_after q s a n k in
      let f = led_to q.call q.words (view_of q s') s' a m'.value_below
      (count_below q.call s' (omega (arith, m.piece, small.few)) (omega (arith, m.byte, small.size s'.piece)) m'.out_below) s.step in
      let H : Others (after_of q s a) = rw (after_noted q s a) (applied s' a (then_in q s a) m' g f) in
      search (arith, call_below q (after_of q s a) (accepted_after q s a h), small.few, small.size (after_of q s a).piece)

-- begin gives words
pub begin_words : (q : Request) → OfWords (begin_of q)
unfolding begin_of
begin_words q = search (listed_below, no_word)

-- ---- a run over answers that are words
offset_below : (r : Register) → offset_of r < 256
offset_below Cr1 = lit< tt
offset_below Cr2 = lit< tt
offset_below Oar1 = lit< tt
offset_below Oar2 = lit< tt
offset_below Timingr = lit< tt
offset_below Isr = lit< tt
offset_below Icr = lit< tt
offset_below Rxdr = lit< tt
offset_below Txdr = lit< tt

set_below : (b : List ℕ) (i x : ℕ) → Below 256 b → x < 256 → Below 256 (set b i x)
set_below [] i x h g = tt
set_below (y ∷ b) zero x h g = (g, h.1)
set_below (y ∷ b) (suc i) x h g = (h.0, set_below b i x h.1 g)

module _ (q : Request) (small : SmallFor q) where
  goes_on : (s : SavedCall) (b : List ℕ) (a : ℕ) (b' : List ℕ) → InRange q s b → T (made (access_of q b s)) → a < word → Below 256 b' →
      InRange q (after_of q s a) b'
  goes_on s b a b' i h g k =
      let n : T (not (same_step s.step Ended)) = both (same_step s.step Ended) (λ e. absurd (rw (no_access q b s e) at h)) (λ n. n) in
      record { accepted = accepted_after q s a i.accepted; of_words = words_after q small s a i.accepted n i.of_words g; bytes = k }

  written : (s : SavedCall) (b : List ℕ) → InRange q s b → Written (access_of q b s)
  unfolding access_of
  written s b i = writes q.call q.words (view_of q s) b s i.bytes i.of_words.word s.step

  module _ (n : ℕ) (ih : (s : SavedCall) (b l : List ℕ) → InRange q s b → Below word l → RunInRange q (advance_from q n s b l)) (s : SavedCall) (b : List ℕ) (i : InRange q s b) where
    turn : (l : List ℕ) (x : Access) → access_of q b s ≡ x → Below word l → RunInRange q (turn_of (advance_from q n) q s b l x)
    turn l Nothing e k = record { after = i; entries = tt }
    turn l (Write r v) e k =
        let p = ih (after_of q s 0) b l (goes_on s b 0 b i (rw e tt) no_word i.bytes) k in
        let v : v < word = rw e at (written s b i) in
        record { after = p.after; entries = (omega (arith, offset_below r), (v, p.entries)) }
    turn [] (Read r) e k = record { after = i; entries = tt }
    turn (a ∷ l) (Read r) e k =
        let p = ih (after_of q s a) b l (goes_on s b a b i (rw e tt) k.0 i.bytes) k.1 in
        record { after = p.after; entries = (omega (arith, offset_below r), (k.0, p.entries)) }
    turn [] (Take j) e k = record { after = i; entries = tt }
    turn (a ∷ l) (Take j) e k =
        let p = ih (after_of q s a) (set b j (byte_of a)) l
        (goes_on s b a _ i (rw e tt) k.0 (set_below b j (byte_of a) i.bytes (omega arith))) k.1 in
        record { after = p.after; entries = (omega (arith, offset_below Rxdr), (k.0, p.entries)) }

  pub run_in_range : (n : ℕ) (s : SavedCall) (b l : List ℕ) → InRange q s b → Below word l → RunInRange q (advance_from q n s b l)
  unfolding advance_from
  run_in_range zero s b l i k = record { after = i; entries = tt }
  run_in_range (suc n) s b l i k = turn n (run_in_range n) s b i l (access_of q b s) refl k
