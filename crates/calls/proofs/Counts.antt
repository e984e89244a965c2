-- What `done` says of a target transfer is what happened: the bytes that came in, or one less than were put out (document 02, R-6);
-- and what a saved call carries of them. Assumes nothing.
use Prim.Native.Nat.{ℕ, zero, suc, ◌+◌, ◌-◌, ◌*◌, ◌/◌, ◌≤◌, ◌<◌, min}
use native.Mathlib.Omega.{arith}
use mathlib.Core.Path.{subst⁻¹, ◌≡◌, refl, sym, ap, ◌∙◌}
use mathlib.Core.Bool.{Bool, true, false, cond, not, ◌&&◌, ◌||◌}
use mathlib.Core.List.{List, [], ◌∷◌, ◌++◌, append-nil}
use lib.Dec.{T, T_not, not_T, ltb, ltb→lt, nleb→lt, leb→le}
use lib.ListN.{length, length-append}
use Rattle.fields.proofs.Laws.{and_l, and_r}
use Rattle.registers.specs.declared.Register.TheVariants.{Txdr}
use Rattle.calls.specs.Bytes.{EndedAs, Count, Carried}
use Rattle.calls.specs.Calls.{Request, is_call, is_kind, manual, transaction, receives, transmits, manual_write}
use Rattle.calls.specs.Outcomes.{is_done}
use Rattle.calls.specs.Pieces.{blocks_of, pieces_of, piece_at, most_of, view_of}
use Rattle.calls.specs.Refusals.{listed, has_pieces, takes, takes_group, group_taken, timing, own, second, enable, peOn, listen, reloadOff}
use Rattle.calls.specs.Run.{Entry, byte_of, out_of, in_of, Uncut, uncut_of, put_out, taken_in}
use Rattle.calls.specs.Steps.{bytes_put, count_of, awaited, wait_at, byte_moved, effect_at, apply_of, counted, noted, access_at, access_of, after_of, start_at, begin_at, begin_of, same_step}
use Rattle.calls.specs.declared.Access.TheVariants.{Take, Write}
use Rattle.calls.specs.declared.Flag.{Flag}
use Rattle.calls.specs.declared.Flag.TheVariants.{Rxne, Txis, Tc, Tcr, Stopf, Never}
use Rattle.calls.specs.declared.Modify.TheVariants.{PeOff, PeOn, Listen, NackSet, ReloadOff, SbcOff, ReloadClear, SbcOn, ReloadOn, NbytesSet}
use Rattle.calls.specs.declared.Outcome.TheVariants.{Done}
use Rattle.calls.specs.declared.SavedCall.{SavedCall}
use Rattle.calls.specs.declared.Step.{Step}
use Rattle.calls.specs.declared.Step.TheVariants.{Ended, Begin, StartStatus, StartControl, Wait, Byte, StopClear, BusClear, ArbitrationClear, NackClear, FlushTxis, FlushByte, FlushTxe, Flush, Timing, Own, Secondary, Enable, Delay1, Delay2, Disabled, Event, EventFlush, EventClear, Address, TransferClear, ModifyRead, ModifyWrite}
use Rattle.calls.specs.declared.Effect.{Effect}
use Rattle.calls.specs.declared.Effect.TheVariants.{Goes, Loads, Notes, Next, Enters, Fails, Ends}
use Rattle.calls.specs.declared.Call.{Call}
use Rattle.calls.specs.declared.Call.TheVariants.{WaitForEvent, WaitForStop}
use Rattle.calls.proofs.Logic.{only, only_use, not_and, not_and_1, nor_1, or_0, or_1, or_else, by_test, both}
use Rattle.calls.proofs.Every.{all, asks, implied, is_eq}
use Rattle.calls.proofs.Fits.{in_event, flush_ok, Fits, AllRead, all_read}
use Rattle.calls.proofs.Along.{entry_of, read_log, Keeps, along}
use Rattle.calls.proofs.Places.{is_true, is_false, transfer_pieces_holds}
use Rattle.calls.proofs.Bytes.{not_transmits, not_receives, no_transaction, past, quiet, not_two, not_end, Front, whole, Fresh, by_noted, noted_fresh, Seen, note, unseen, seen_out, seen_got, Inv, at_byte_holds, Taken, step_taken, keeps, begins}
use Rattle.calls.proofs.Views.{noted_in, then_in, after_noted, there_in, last_in, size_in}

abbrev target : Request → Bool
target q = receives q.call || transmits q.call

-- ---- The table of steps once more: a transfer that ends as done says the count of the bytes moved, in an event 0

abbrev CountWhy : Request → SavedCall → Step → Effect → Type 0
CountWhy q s t (Goes u) = Unit {0}
CountWhy q s t (Loads u) = Unit {0}
CountWhy q s t (Notes o u) = Unit {0}
CountWhy q s t (Next u) = Unit {0}
CountWhy q s t (Enters u) = Unit {0}
CountWhy q s t (Fails o) = Unit {0}
CountWhy q s t (Ends o) = only (is_done o) (o ≡ Done (cond (in_event t) 0 (count_of q.call s)))

record Counts (q : Request) (s : SavedCall) (t : Step) (n : Effect) : Type 0 where
  why : CountWhy q s t n

-- what no transfer asks for or takes
absent : (q : Request) (f : Request → Bool) → T (all (λ c. not (target (asks q c)) || not (f (asks q c))) listed) →
    T (target q) → T (f q) → ⊥
absent q f t x h = T_not (target q) (implied q f (λ r. not (target r)) t h) x

module _ {q : Request} {s : SavedCall} {t : Step} where
  test : (c : Bool) {x y : Effect} → (T c → Counts q s t x) → (T (not c) → Counts q s t y) → Counts q s t (cond c x y)
  test = by_test (Counts q s t)

  not_7 : (n : Effect) → T (target q) → T (transaction q.call) → Counts q s t n
  unfolding is_call is_kind
  not_7 n x h = absurd (absent q (λ r. transaction r.call) tt x h)

  not_8 : (n : Effect) → T (target q) → T (is_kind q.call WaitForEvent) → Counts q s t n
  unfolding is_call is_kind
  not_8 n x h = absurd (absent q (λ r. is_kind r.call WaitForEvent) tt x h)

  not_13 : (n : Effect) → T (target q) → T (is_kind q.call WaitForStop) → Counts q s t n
  unfolding is_call is_kind
  not_13 n x h = absurd (absent q (λ r. is_kind r.call WaitForStop) tt x h)

ruleset table = (test, not_7, not_8, not_13, tt)

module _ (q : Request) (s : SavedCall) (a : ℕ) (x : T (target q)) where
  waits : (f : Flag) → Counts q s Wait (wait_at q.call (view_of q s) s a f)
  waits Rxne = search table depth 16
  waits Txis = search table depth 16
  waits Tc = search table depth 16
  waits Tcr = search table depth 16
  waits Stopf = search table depth 16
  waits Never = search table depth 16

  counts : (t : Step) → T (not (same_step t Ended)) → T (takes q t) → Counts q s t (effect_at q.call q.words (view_of q s) s a t)
  unfolding group_taken is_call is_kind
  counts Ended h k = absurd h
  counts Begin h k = search table depth 16
  counts StartStatus h k = search table depth 16
  counts StartControl h k = search table depth 16
  counts Wait h k = let w = waits (awaited q.call (view_of q s) s) in search table depth 16
  counts Byte h k = search table depth 16
  counts StopClear h k = search table depth 16
  counts BusClear h k = search table depth 16
  counts ArbitrationClear h k = search table depth 16
  counts NackClear h k = search table depth 16
  counts FlushTxis h k = search table depth 16
  counts FlushByte h k = search table depth 16
  counts FlushTxe h k = search table depth 16
  counts Flush h k = search table depth 16
  counts Timing h k = absurd (absent q (λ r. takes_group r timing) tt x k)
  counts Own h k = absurd (absent q (λ r. takes_group r own) tt x k)
  counts Secondary h k = absurd (absent q (λ r. takes_group r second) tt x k)
  counts Enable h k = absurd (absent q (λ r. takes_group r enable) tt x k)
  counts Delay1 h k = search table depth 16
  counts Delay2 h k = search table depth 16
  counts Disabled h k = search table depth 16
  counts Event h k = search table depth 16
  counts EventFlush h k = search table depth 16
  counts EventClear h k = search table depth 16
  counts Address h k = search table depth 16
  counts TransferClear h k = search table depth 16
  counts (ModifyRead m) h k = search table depth 16
  counts (ModifyWrite PeOff) h k = search table depth 16
  counts (ModifyWrite PeOn) h k = absurd (absent q (λ r. takes_group r peOn) tt x k)
  counts (ModifyWrite Listen) h k = absurd (absent q (λ r. takes_group r listen) tt x k)
  counts (ModifyWrite NackSet) h k = search table depth 16
  counts (ModifyWrite ReloadOff) h k = absurd (absent q (λ r. takes_group r reloadOff) tt x k)
  counts (ModifyWrite SbcOff) h k = search table depth 16
  counts (ModifyWrite ReloadClear) h k = search table depth 16
  counts (ModifyWrite SbcOn) h k = search table depth 16
  counts (ModifyWrite ReloadOn) h k = search table depth 16
  counts (ModifyWrite NbytesSet) h k = search table depth 16

-- ---- The pieces of a transfer: blocks of 255, or one

pub block_size : (w : Bool) (f n i : ℕ) → n ≤ f → (piece_at (blocks_of w f n) i).size ≡ min 255 (n - 255 * i)
block_size w zero n i h = omega arith
block_size w (suc f) zero i h = omega arith
block_size w (suc f) (suc n) zero h = omega arith
block_size w (suc f) (suc n) (suc i) h = block_size w f (suc n - 255) i (omega arith) ∙ omega arith

pub block_count : (w : Bool) (f n : ℕ) → n ≤ f → length (blocks_of w f n) ≡ (n + 254) / 255
block_count w zero n h = omega arith
block_count w (suc f) zero h = omega arith
block_count w (suc f) (suc n) h = omega (arith, block_count w f (suc n - 255) (omega arith))

module _ (q : Request) (x : T (target q)) where
  blocks : T (manual q.call) → (i : ℕ) →
      ((piece_at (pieces_of q) i).size ≡ min 255 (q.size - 255 * i)) × (length (pieces_of q) ≡ (q.size + 254) / 255)
  blocks m i =
      rw (transfer_pieces_holds q (no_transaction q x) x, is_true (manual q.call) m)
      (block_size _ q.size q.size i (omega arith), block_count _ q.size q.size (omega arith))

  single : T (not (manual q.call)) → ((piece_at (pieces_of q) 0).size ≡ q.size) × (length (pieces_of q) ≡ 1)
  single m = rw (transfer_pieces_holds q (no_transaction q x) x, is_false (manual q.call) m) (refl, refl)

  -- all blocks but the last are full
  full : (i : ℕ) → i + 1 < length (pieces_of q) → (piece_at (pieces_of q) i).size ≡ 255
  full i l = both (manual q.call) (λ m. omega (arith, blocks m i)) (λ m. omega (arith, single m))

-- ---- Where a transfer stands, in block i at byte j with o carried as put out, once m bytes are moved

record Stands (q : Request) (m i j o : ℕ) : Type 0 where
  -- a block that is not the last is left as soon as it is whole
  running : i + 1 < length (pieces_of q) → j < 255
  received : T (receives q.call) → m ≡ 255 * i + j
  put : T (transmits q.call) → cond (manual q.call) o j ≡ min m (q.size + 1)

-- one more is put out: a manual write counts it, an automatic one numbers it
more_put : (w : Bool) (o j k m n most : ℕ) → (T w → most ≡ n + 1) → (T (not w) → k ≡ min (j + 1) (n + 1)) →
    cond w o j ≡ min m (n + 1) → cond w (min (o + 1) most) k ≡ min (m + 1) (n + 1)
more_put true o j k m n most h g e = omega (arith, h tt)
more_put false o j k m n most h g e = omega (arith, g tt)

-- nothing is moved, nothing counts
none_moved : (c : Call) (s : SavedCall) → (s.piece ≡ 0) × (s.byte ≡ 0) × (s.out ≡ 0) → count_of c s ≡ 0
none_moved c s z =
    by_test (λ (n : ℕ). n ≡ 0) (receives c) (λ _. omega (arith, z.0, z.1))
    (λ _. by_test (λ (n : ℕ). n - 1 ≡ 0) (manual c) (λ _. omega (arith, z.2)) (λ _. omega (arith, z.1)))

-- ---- Each access keeps it

abbrev moved_of : Request → Seen → ℕ
moved_of q z = cond (receives q.call) (length z.got) (length z.out)

abbrev StandsAt : Request → ℕ → SavedCall → Type 0
StandsAt q m s = Stands q m s.piece s.byte s.out

-- a byte that is there and no filling zero
own_byte : (q : Request) (s : SavedCall) → T (there_in q s) → T (not (transmits q.call && last_in q s)) → s.byte < size_in q s
own_byte q s h n = ltb→lt s.byte (size_in q s) (other (ltb s.byte (size_in q s)) (transmits q.call && last_in q s) h n)
  where
    other : (x y : Bool) → T (x || y) → T (not y) → T x
    other true y h n = tt
    other false y h n = absurd (T_not y n h)

module _ (q : Request) (s : SavedCall) (a m : ℕ) (x : T (target q)) (v : StandsAt q m s) where
  abbrev later : Effect → Type 0
  later n = StandsAt q (m + 1) (apply_of (counted (view_of q s) s) a n)

  -- what is put out is one more, whatever byte number k follows
  put_by : (k : ℕ) → (T (not (manual q.call)) → k ≡ min (s.byte + 1) (q.size + 1)) → T (transmits q.call) →
      cond (manual q.call) (counted (view_of q s) s).out k ≡ min (m + 1) (q.size + 1)
  put_by k h t =
      more_put (manual q.call) s.out s.byte k m q.size (most_of q)
      (λ w. rw (is_true (manual q.call) w, is_true (transmits q.call) t)) h (v.put t)

  -- BYTE is one more, in the same block or, where this one is full, in the next
  same_block : T (there_in q s) × (s.piece < length (pieces_of q)) → (s.piece + 1 < length (pieces_of q) → s.byte + 1 < 255) →
      StandsAt q (m + 1) (counted (view_of q s) s)
  same_block h f = record {
    running = λ l. omega (arith, f l);
    received = λ r.
        let l = own_byte q s h.0 (not_and (transmits q.call) (last_in q s) (not_transmits q r)) in
        omega (arith, l, v.received r);
    put = put_by _ (λ n.
        let p = single q x n in
        let z : s.piece ≡ 0 = omega (arith, h.1, p.1) in
        rw (z, p.0));
  }

  next_block : T (there_in q s) → T (not (last_in q s)) → T (not (there_in q (counted (view_of q s) s))) →
      Stands q (m + 1) (s.piece + 1) 0 (counted (view_of q s) s).out
  next_block h l n =
      let i : s.piece + 1 < length (pieces_of q) = nleb→lt (length (pieces_of q)) (s.piece + 1) l in
      record {
        running = λ _. omega arith;
        received = λ r.
            let j = own_byte q s h (not_and (transmits q.call) (last_in q s) (not_transmits q r)) in
            omega (arith, j, past q (counted (view_of q s) s) n, full q x s.piece i, v.received r);
        put = put_by 0 (λ w. absurd (omega (arith, i, (single q x w).1)));
      }

  stands_byte : T (there_in q s) × (s.piece < length (pieces_of q)) → later (byte_moved q.call (view_of q s) (counted (view_of q s) s))
  stands_byte h =
      by_test later (transaction q.call || there_in q (counted (view_of q s) s))
      (λ c. same_block h (λ l.
      let n : T (not (last_in q s)) = not_T (last_in q s) (λ k. omega (arith, leb→le (length (pieces_of q)) _ k)) in
      let y : T (there_in q (counted (view_of q s) s)) = or_else (transaction q.call) _ c (no_transaction q x) in
      let j = own_byte q (counted (view_of q s) s) y (not_and_1 (transmits q.call) (last_in q s) n) in
      omega (arith, j, full q x s.piece l))) (λ n.
      by_test later (last_in q s)
      (λ l.
      let y = same_block h (λ k. absurd (omega (arith, leb→le (length (pieces_of q)) _ l))) in
      by_test later (receives q.call && not (manual q.call)) (λ _. y) (λ _. y))
      (λ l. next_block h.0 l (nor_1 (transaction q.call) (there_in q (counted (view_of q s) s)) n)))

  -- any other step moves none
  stands_after : (t : Step) (n : Effect) → Fresh t s → Fits q s t n → StandsAt q m (apply_of s a n)
  stands_after t (Goes u) e f = v
  stands_after t (Loads u) e f = v
  stands_after t (Notes o u) e f = v
  stands_after t (Next u) e f =
      let l : s.piece + 1 < length (pieces_of q) = nleb→lt (length (pieces_of q)) (s.piece + 1) f.why.1 in
      absurd (omega (arith, past q s f.why.0, full q x s.piece l, v.running l))
  stands_after t (Enters u) e f = let z = e f.why.0 in rw (z.0, z.1, z.2) at v
  stands_after t (Fails o) e f = v
  stands_after t (Ends o) e f = v

-- an ended transfer that is done says this count
abbrev Says : Request → SavedCall → Type 0
Says q s = T (same_step s.step Ended) → T (is_done s.outcome) → s.outcome ≡ Done (count_of q.call s)

says_after : (q : Request) (s : SavedCall) (a : ℕ) (t : Step) (n : Effect) →
    Fresh t s → Fits q s t n → Counts q s t n → Says q (apply_of s a n)
says_after q s a t (Goes u) z f c e d = absurd (T_not (same_step u Ended) f.why.2 e)
says_after q s a t (Loads u) z f c e d = absurd (not_end u f.why e)
says_after q s a t (Notes o u) z f c e d = absurd (not_end u f.why.0 e)
says_after q s a t (Next u) z f c e d = absurd (not_end u f.why.2 e)
says_after q s a t (Enters u) z f c e d = absurd (not_end u f.why.1 e)
says_after q s a t (Fails o) z f c e d = absurd e
says_after q s a t (Ends o) z f c e d =
    let w = only_use (is_done o) _ d c.why in
    w ∙ ap Done (by_test (λ n. n ≡ count_of q.call s) (in_event t) (λ i. sym (none_moved q.call s (z i))) (λ _. refl))

-- the entry of BYTE is one more, that of any other step none
module _ (q : Request) (s : SavedCall) (b : List ℕ) (a : ℕ) (z : Seen) (x : T (target q)) where
  abbrev after : Step → ℕ
  after t = moved_of q (note z (entry_of (access_at q.call q.words (view_of q s) b s t) a))

  moved_byte : s.piece < length (pieces_of q) → z.two ≡ false → after Byte ≡ moved_of q z + 1
  unfolding AllRead
  moved_byte p h = rw (all_read q (no_transaction q x) s.piece p, h) (go (receives q.call) _ _)
    where
      e : Bool → ℕ → ℕ → Entry
      e r i v = entry_of (cond r (Take i) (Write Txdr v)) a

      -- wherever the byte goes and whichever it is
      go : (r : Bool) (i v : ℕ) → cond r (length (z.got ++ in_of (e r i v))) (length (z.out ++ out_of false (e r i v))) ≡
          cond r (length z.got) (length z.out) + 1
      go true i v = length-append z.got (byte_of a ∷ [])
      go false i v = length-append z.out (v ∷ [])

  moved_quiet : (t : Step) → T (not (same_step t Byte)) → T (flush_ok t z.two z.one) → after t ≡ moved_of q z
  moved_quiet t n f = let k = quiet q b s a t z.two z.one n f in simp (k.out, k.got, append-nil)

  stands_moved : (t : Step) → T (same_step t Byte) → T (flush_ok t z.two z.one) →
      T (there_in q s) × (s.piece < length (pieces_of q)) → StandsAt q (moved_of q z) s →
      StandsAt q (after t) (apply_of (noted (view_of q s) s a t) a (effect_at q.call q.words (view_of q (noted (view_of q s) s a t)) (noted (view_of q s) s a t) a t))
  stands_moved t y h p v =
      let e = is_eq t Byte y in
      rw (e, moved_byte p.1 (not_two z.two z.one (rw e at h))) (stands_byte q s a (moved_of q z) x v p)

  stands_step : T (flush_ok s.step z.two z.one) → Fresh s.step s → Taken q s a → StandsAt q (moved_of q z) s →
      StandsAt q (after s.step) (after_of q s a)
  stands_step h r k v =
      let t : Step = s.step in
      subst⁻¹ (StandsAt q (after t)) (after_noted q s a)
      (both (same_step t Byte)
      (λ y. stands_moved t y h (at_byte_holds q s k.known y) v)
      (λ n. rw (moved_quiet t n h)
      (stands_after q (noted (view_of q s) s a t) a (moved_of q z) x (by_noted q s a t (Stands q (moved_of q z)) n v)
      t _ (noted_fresh q s a t r) k.fits)))

record Counting (q : Request) (x : Front) (z : Seen) (s : SavedCall) (b : List ℕ) : Type 0 where
  inv : Inv q x z s b
  stands : StandsAt q (moved_of q z) s
  says : Says q s

counting_keeps : (q : Request) (x : Front) → T (target q) → Keeps q Seen note (Counting q x)
unfolding access_of
counting_keeps q x y z s b a v h =
    let k : Taken q s a = step_taken q b s a v.inv.accepted h in
    let t : Step = s.step in
    record {
      inv = keeps q x z s b a v.inv h;
      stands = stands_step q s b a z y v.inv.flush v.inv.fresh k v.stands;
      says = subst⁻¹ (Says q) (after_noted q s a)
          (says_after q (noted_in q s a) a t _ (noted_fresh q s a t v.inv.fresh) k.fits
          (counts q (noted_in q s a) a y t k.live k.known.taken));
    }

counting_begins : (q : Request) (b : List ℕ) → Counting q (whole q b) unseen (begin_of q) b
unfolding begin_of
counting_begins q b = record {
  inv = begins q b;
  stands = by_test (λ n. Stands q n 0 0 0) (receives q.call) (λ _. at_start) (λ _. at_start);
  says = λ _ _. ap Done (sym (none_moved q.call (start_at q.call (begin_at q.call (has_pieces q))) (refl, refl, refl)));
}
  where
    at_start : Stands q 0 0 0 0
    at_start = record {
      running = λ _. omega arith;
      received = λ _. omega arith;
      put = λ _. by_test (λ (n : ℕ). n ≡ min 0 (q.size + 1)) (manual q.call) (λ _. omega arith) (λ _. omega arith);
    }

-- ---- A call that is no manual write carries 0

none_noted : (q : Request) (s : SavedCall) (a : ℕ) → T (not (manual_write q.call)) → s.out ≡ 0 → (noted_in q s a).out ≡ 0
none_noted q s a n h =
    by_test Q (same_step s.step Byte) (λ _. rw (is_false (manual_write q.call) n) (omega arith))
    (λ _. by_test Q (same_step s.step Address) (λ _. h) (λ _. h))
  where
    Q : SavedCall → Type 0
    Q x = x.out ≡ 0

none_applied : (s : SavedCall) (a : ℕ) (n : Effect) → s.out ≡ 0 → (apply_of s a n).out ≡ 0
none_applied s a (Goes u) h = h
none_applied s a (Loads u) h = h
none_applied s a (Notes o u) h = h
none_applied s a (Next u) h = h
none_applied s a (Enters u) h = refl
none_applied s a (Fails o) h = h
none_applied s a (Ends o) h = h

none_begun : (q : Request) → (begin_of q).out ≡ 0
unfolding begin_of
none_begun q = refl

-- ---- What it says of the uncut run

module _ (q : Request) (k : ℕ) (b l : List ℕ) where
  abbrev U : Uncut
  U = uncut_of q k (begin_of q) b l

  abbrev seen : Seen
  seen = read_log note unseen U.log

  holds : T (target q) → Counting q (whole q b) seen U.saved U.buffer
  holds x =
      along q Seen note (Counting q (whole q b)) (counting_keeps q (whole q b) x)
      k unseen (begin_of q) b l (counting_begins q b)

  count-is : T (target q) → (n : ℕ) → EndedAs (Done n) U → n ≡ count_of q.call U.saved
  count-is x n e =
      let d : U.saved.outcome ≡ Done (count_of q.call U.saved) = (holds x).says (rw e.ended tt) (rw e.outcome tt) in
      cc e.outcome

  out-is : T (transmits q.call) → moved_of q seen ≡ length (put_out U.log)
  out-is t = rw (is_false (receives q.call) (not_receives q t), seen_out unseen U.log)

  put_is : (t : T (transmits q.call)) → bytes_put q.call U.saved ≡ min (length (put_out U.log)) (q.size + 1)
  put_is t = rw (out-is t) at ((holds (or_1 (receives q.call) (transmits q.call) t)).stands.put t)

  pub done_count : (n : ℕ) → q.size ≡ length b → EndedAs (Done n) U → Count q b U n
  done_count n z e = record {
    received = λ r.
        let x : T (target q) = or_0 (receives q.call) (transmits q.call) r in
        let m : moved_of q seen ≡ length (taken_in U.log) = rw (is_true (receives q.call) r, seen_got unseen U.log) in
        let c = rw (is_true (receives q.call) r) at (count-is x n e) in
        c ∙ sym ((holds x).stands.received r) ∙ m;
    transmitted = λ t.
        let c = rw (is_false (receives q.call) (not_receives q t)) at (count-is (or_1 (receives q.call) (transmits q.call) t) n e) in
        c ∙ rw (put_is t, ← z) (omega arith);
  }

  pub carries : q.size ≡ length b → Carried q b U
  carries z = record {
    manual_write_holds = λ w.
        let m : T (manual q.call) = and_l (manual q.call) (transmits q.call) w in
        (rw (is_true (manual q.call) m) at (put_is (and_r (manual q.call) (transmits q.call) w))) ∙ held;
    automatic = λ t n. (rw (is_false (manual q.call) n) at (put_is t)) ∙ held;
    none = λ n.
        along q (Unit {0}) (λ z e. z) (λ z s b. s.out ≡ 0)
        (λ z s b a h m. rw (after_noted q s a) (none_applied (noted_in q s a) a (then_in q s a) (none_noted q s a n h)))
        k tt (begin_of q) b l (none_begun q);
  }
    where
      held : min (length (put_out U.log)) (q.size + 1) ≡ min (length (put_out U.log)) (length b + 1)
      held = ap (λ (n : ℕ). min (length (put_out U.log)) (n + 1)) z
