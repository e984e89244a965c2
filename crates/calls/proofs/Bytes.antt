-- The invariant of a run: the bytes seen in the log and those still ahead are the caller's, and the places still ahead
-- take what comes next. Assumes nothing.
use Prim.Native.Nat.{ℕ, ◌+◌, ◌≤◌, ◌<◌, min}
use native.Mathlib.Omega.{arith}
use mathlib.Core.Path.{subst, subst⁻¹, ◌≡◌, refl, sym, ap, ◌∙◌}
use mathlib.Core.Bool.{Bool, true, false, cond, not, ◌&&◌, ◌||◌, beq}
use mathlib.Core.List.{List, [], ◌∷◌, ◌++◌, append_assoc, append-nil}
use lib.Dec.{T, T_not, not_T, eqb, ltb, ltb→lt, leb→le, nltb→le}
use lib.ListN.{length, set, length-append, replicate, replicate-append-replicate}
use Rattle.fields.specs.Field.{put_of, with_bits}
use Rattle.fields.proofs.Laws.{and_l, and_r}
use Rattle.registers.specs.declared.Register.{Register}
use Rattle.registers.specs.declared.Register.TheVariants.{Cr1, Oar1, Oar2}
use Rattle.calls.specs.Bytes.{places_from, bytes_at, EndedAs}
use Rattle.calls.specs.Calls.{Request, is_call, is_kind, transaction, receives, transmits}
use Rattle.calls.specs.Outcomes.{is_done}
use Rattle.calls.specs.Pieces.{pieces_of, view_of}
use Rattle.calls.specs.Refusals.{has_pieces, accepts}
use Rattle.calls.specs.Run.{Entry, read_entry, write_entry, byte_of, Uncut, uncut_of, is_nack_clear, out_of, put_out_from, put_out, in_of, taken_in}
use Rattle.calls.specs.Steps.{failing, byte_out, access_at, access_of, apply_of, counted, noted, begin_at, begin_of, same_step}
use Rattle.calls.specs.Words.{register_of, alter_of}
use Rattle.calls.specs.declared.Access.{Access}
use Rattle.calls.specs.declared.Access.TheVariants.{Read, Take, Write, Nothing}
use Rattle.calls.specs.declared.Modify.TheVariants.{Listen}
use Rattle.calls.specs.declared.Outcome.{Outcome}
use Rattle.calls.specs.declared.Outcome.TheVariants.{Done}
use Rattle.calls.specs.declared.SavedCall.{SavedCall}
use Rattle.calls.specs.declared.Step.{Step}
use Rattle.calls.specs.declared.Step.TheVariants.{Ended, Byte, StopClear, NackClear, FlushTxis, FlushByte, Address, ModifyRead, ModifyWrite}
use Rattle.calls.specs.declared.Effect.{Effect}
use Rattle.calls.specs.declared.Effect.TheVariants.{Goes, Loads, Notes, Next, Enters, Fails, Ends}
use Rattle.calls.proofs.Logic.{only_use, only_if, and_in, or_1, or_else, nor_0, by_test, both, same}
use Rattle.calls.proofs.Every.{implied, is_eq, every_step}
use Rattle.calls.proofs.Fits.{over, flush_ok, in_event, plain, from_event, Fits, AllRead, all_read, move_some, fits}
use Rattle.calls.proofs.Accepted.{Known, known, notes_well, accepted_after, accepted_begin}
use Rattle.calls.proofs.Along.{entry_of, store_of, made, read_log, Keeps, along}
use Rattle.calls.proofs.Places.{is_true, is_false, ahead_from, store_at, ahead_all, ahead_none, ahead_next, ahead_other, ahead_this, bytes_ahead}
use Rattle.calls.proofs.Views.{step_of, noted_in, then_in, after_noted, there_in, last_in, reads_in, size_in, place_in}

-- ---- What a run moves

abbrev pub ahead_of : Bool → Request → SavedCall → List ℕ
ahead_of w q s = ahead_from w 0 (pieces_of q) s.piece s.byte

-- what is still to come: the bytes to put out, the places to fill, and the buffer
pub record Front : Type 0 where
  pub bytes : List ℕ
  pub places : List ℕ
  pub buffer : List ℕ

abbrev pub front_of : Request → SavedCall → List ℕ → Front
front_of q s b = record { bytes = bytes_at b (ahead_of false q s); places = ahead_of true q s; buffer = b }

-- from x to y the bytes `out` are put out and `got` come in: the first of what was to come, and filling zeros
pub record Moves (q : Request) (x y : Front) (out got : List ℕ) : Type 0 where
  pub zeros : ℕ
  pub filling : T (not (transmits q.call)) → zeros ≡ 0
  pub puts : out ++ y.bytes ≡ x.bytes ++ replicate zeros 0
  pub takes : (vs : List ℕ) → store_at x.buffer x.places (got ++ vs) ≡ store_at y.buffer y.places vs
  pub count : length got + length y.places ≡ length x.places

still : (q : Request) (x : Front) → Moves q x x [] []
still q x = record {
  zeros = 0;
  filling = λ _. refl;
  puts = sym (append-nil x.bytes);
  takes = λ vs. refl;
  count = omega arith;
}

after : (q : Request) (x y z : Front) (o g p h : List ℕ) →
    Moves q x y o g → Moves q y z p h → Moves q x z (o ++ p) (g ++ h)
after q x y z o g p h m n = record {
  zeros = m.zeros + n.zeros;
  filling = λ f. omega (arith, m.filling f, n.filling f);
  puts = rw (append_assoc, n.puts, ← append_assoc, m.puts, append_assoc, replicate-append-replicate);
  takes = λ vs. rw append_assoc (m.takes (h ++ vs) ∙ n.takes vs);
  count = rw length-append (omega (arith, m.count, n.count));
}

-- ---- Every step but BYTE moves nothing

-- of the other steps NACK_CLEAR alone writes ICR 0x10 and FLUSH_BYTE alone TXDR, and none reads RXDR
abbrev ordinary : Step → Entry → Bool
ordinary t e =
    beq (is_nack_clear e) (same_step t NackClear)
    && (beq (eqb e.code 0x128) (same_step t FlushByte) && not (eqb e.code 0x24))

-- one computed test for every step; only LISTEN's two do not compute, as their register depends on the request
module _ (q : Request) (b : List ℕ) (s : SavedCall) (a : ℕ) where
  by_listen : (P : Register → Type 0) → P Cr1 → P Oar1 → P Oar2 → P (register_of q.words Listen)
  by_listen P c o p =
      by_test P (eqb q.words.listen 0) (λ _. c) (λ _. by_test P (eqb q.words.listen 1) (λ _. o) (λ _. p))

  entry_ordinary : (t : Step) → T (not (same_step t Byte)) → T (ordinary t (entry_of (access_at q.call q.words (view_of q s) b s t) a))
  unfolding put_of with_bits
  entry_ordinary t n =
      both (same_step t r)
      (λ e. rw (is_eq t r e) (by_listen (λ x. T (ordinary r (read_entry x a))) tt tt tt)) (λ m.
      both (same_step t w)
      (λ e. rw (is_eq t w e) (by_listen (λ x. T (ordinary w (write_entry x (alter_of q.call q.words (view_of q s) s.word Listen)))) tt tt tt))
      (λ k. or_else (same_step t w) _ (or_else (same_step t r) _ (or_else (same_step t Byte) _ (every_step computes tt t) n) m) k))
    where
      r : Step
      r = ModifyRead Listen

      w : Step
      w = ModifyWrite Listen

      computes : Step → Bool
      computes t = same_step t Byte || (same_step t r || (same_step t w || ordinary t (entry_of (access_at q.call q.words (view_of q s) b s t) a)))

-- so nothing is put out, taken in or stored (FLUSH_BYTE comes two entries after NACK_CLEAR)
pub record Quiet (t : Step) (two : Bool) (x : Access) (a : ℕ) (b : List ℕ) : Type 0 where
  pub mark : is_nack_clear (entry_of x a) ≡ same_step t NackClear
  pub out : out_of two (entry_of x a) ≡ []
  pub got : in_of (entry_of x a) ≡ []
  pub store : store_of x a b ≡ b

quiet_entry : (t : Step) (two one : Bool) (x : Access) (a : ℕ) (b : List ℕ) →
    T (ordinary t (entry_of x a)) → T (flush_ok t two one) → Quiet t two x a b
quiet_entry t two one x a b o f = record {
  mark = same (is_nack_clear e) (same_step t NackClear) (search and_l);
  out =
      rw (same (eqb e.code 0x128) (same_step t FlushByte) (search (and_l, and_r)))
      (flushed (same_step t FlushByte) two (search (and_l, and_r)));
  got = rw (is_false (eqb e.code 0x24) (search (and_l, and_r)));
  store = stored x (search (and_l, and_r));
}
  where
    e : Entry
    e = entry_of x a

    flushed : (c two : Bool) → T (not c || two) → cond (c && not two) (e.value ∷ []) [] ≡ []
    flushed true true h = refl
    flushed true false h = absurd h
    flushed false two h = refl

    stored : (x : Access) → T (not (eqb (entry_of x a).code 0x24)) → store_of x a b ≡ b
    stored Nothing h = refl
    stored (Read r) h = refl
    stored (Take i) h = absurd h
    stored (Write r v) h = refl

pub quiet : (q : Request) (b : List ℕ) (s : SavedCall) (a : ℕ) (t : Step) (two one : Bool) →
    T (not (same_step t Byte)) → T (flush_ok t two one) → Quiet t two (access_at q.call q.words (view_of q s) b s t) a b
quiet q b s a t two one n f = quiet_entry t two one (access_at q.call q.words (view_of q s) b s t) a b (entry_ordinary q b s a t n) f

-- ---- BYTE moves the byte that is there

pub past : (q : Request) (s : SavedCall) → T (not (there_in q s)) → size_in q s ≤ s.byte
past q s n = nltb→le s.byte (size_in q s) (search nor_0)

-- past the last piece's bytes nothing is ahead
all_out : (w : Bool) (q : Request) (s : SavedCall) (j : ℕ) → T (last_in q s) → size_in q s ≤ j →
    ahead_from w 0 (pieces_of q) s.piece j ≡ []
all_out w q s j l h =
    ahead_next w 0 (pieces_of q) s.piece j h
    ∙ ahead_none w 0 (pieces_of q) (s.piece + 1) 0 (leb→le (length (pieces_of q)) (s.piece + 1) l)

-- a call fills its buffer, or puts it out, or is a transaction
module _ (q : Request) where
  pub not_transmits : T (receives q.call) → T (not (transmits q.call))
  unfolding is_call is_kind
  not_transmits = implied q (λ r. receives r.call) (λ r. not (transmits r.call)) tt

  pub not_receives : T (transmits q.call) → T (not (receives q.call))
  unfolding is_call is_kind
  not_receives = implied q (λ r. transmits r.call) (λ r. not (receives r.call)) tt

  pub no_filling : T (transaction q.call) → T (not (transmits q.call))
  unfolding is_call is_kind
  no_filling = implied q (λ r. transaction r.call) (λ r. not (transmits r.call)) tt

  pub no_transaction : T (receives q.call || transmits q.call) → T (not (transaction q.call))
  unfolding is_call is_kind
  no_transaction = implied q (λ r. receives r.call || transmits r.call) (λ r. not (transaction r.call)) tt

module _ (q : Request) (s : SavedCall) (b : List ℕ) (a : ℕ)
    (p : s.piece < length (pieces_of q)) (h : T (there_in q s)) where
  one_on : s.byte < size_in q s → min (s.byte + 1) (size_in q s + 1) ≡ s.byte + 1
  one_on l = omega arith

  -- a byte that comes in is no filling zero
  inside : T (reads_in q s) → s.byte < size_in q s
  unfolding AllRead
  inside r =
      both (ltb s.byte (size_in q s)) (ltb→lt s.byte (size_in q s)) (λ n.
      let f : T (transmits q.call) = and_l (transmits q.call) (last_in q s) (or_else (ltb s.byte (size_in q s)) _ h n) in
      let e : reads_in q s ≡ receives q.call = all_read q (no_transaction q (or_1 (receives q.call) (transmits q.call) f)) s.piece p in
      absurd (T_not (receives q.call) (not_receives q f) (rw e at r)))

  byte_in : T (reads_in q s) →
      Moves q (front_of q s b) (front_of q (counted (view_of q s) s) (set b (place_in q s) (byte_of a))) [] (byte_of a ∷ [])
  byte_in r =
      let l : s.byte < size_in q s = inside r in
      let c : reads_in q s ≡ true = is_true (reads_in q s) r in
      let e = ahead_this true 0 (pieces_of q) s.piece s.byte (rw c) l in
      record {
        zeros = 0;
        filling = λ _. refl;
        puts = rw (append-nil, one_on l)
            (bytes_ahead b (byte_of a) false (pieces_of q) s.piece s.byte l
            ∙ ap (bytes_at b) (ahead_other false 0 (pieces_of q) s.piece (s.byte + 1) s.byte (rw c)));
        takes = λ vs. rw (one_on l, e);
        count = rw (one_on l, e) (omega arith);
      }

  byte_out_holds : T (not (reads_in q s)) → Moves q (front_of q s b) (front_of q (counted (view_of q s) s) b) (byte_out (view_of q s) b s ∷ []) []
  byte_out_holds r =
      by_test (λ v. Moves q (front_of q s b) (front_of q (counted (view_of q s) s) b) (v ∷ []) []) (ltb s.byte (size_in q s))
      (λ c.
      let l : s.byte < size_in q s = ltb→lt s.byte (size_in q s) c in
      record {
        zeros = 0;
        filling = λ _. refl;
        puts = rw (append-nil, one_on l, ahead_this false 0 (pieces_of q) s.piece s.byte (rw e) l);
        takes = λ vs. rw other;
        count = rw other (omega arith);
      })
      (λ n.
      let l : size_in q s ≤ s.byte = nltb→le s.byte (size_in q s) n in
      let f : T (transmits q.call && last_in q s) = or_else (ltb s.byte (size_in q s)) _ h n in
      let k : T (last_in q s) = search and_r in
      record {
        zeros = 1;
        filling = λ m. absurd (T_not (transmits q.call) m (search and_l));
        puts = rw (all_out false q s s.byte k l, all_out false q s (counted (view_of q s) s).byte k (omega arith));
        takes = λ vs. rw other;
        count = rw other (omega arith);
      })
    where
      e : reads_in q s ≡ false
      e = is_false (reads_in q s) r

      other : ahead_of true q (counted (view_of q s) s) ≡ ahead_of true q s
      other = ahead_other true 0 (pieces_of q) s.piece (counted (view_of q s) s).byte s.byte (rw e)

  abbrev moves_by : Access → Type 0
  moves_by x =
      Moves q (front_of q s b) (front_of q (counted (view_of q s) s) (store_of x a b)) (out_of false (entry_of x a)) (in_of (entry_of x a))

  byte_moves : moves_by (access_at q.call q.words (view_of q s) b s Byte)
  byte_moves = by_test moves_by (reads_in q s) byte_in byte_out_holds

-- ---- Where a step leads, what is ahead stays

-- an event's steps are taken before any byte is moved
abbrev pub Fresh : Step → SavedCall → Type 0
Fresh t s = T (in_event t) → (s.piece ≡ 0) × (s.byte ≡ 0) × (s.out ≡ 0)

-- a transaction clears STOPF past its last byte, or with an error on its way
abbrev Stopping : Request → Step → SavedCall → Type 0
Stopping q t s = T (same_step t StopClear) → T (transaction q.call) → T (over q s)

-- a transaction that is done has nothing ahead
abbrev Finished : Request → SavedCall → Type 0
Finished q s =
    T (same_step s.step Ended) → T (is_done s.outcome) → T (transaction q.call) → (w : Bool) → ahead_of w q s ≡ []

record Onward (q : Request) (t : Step) (s s' : SavedCall) : Type 0 where
  ahead : (w : Bool) → ahead_of w q s' ≡ ahead_of w q s
  flush : T (flush_ok s'.step (same_step t FlushTxis) (same_step t NackClear))
  fresh : Fresh s'.step s'
  stopping : Stopping q s'.step s'
  finished : Finished q s'

pub not_end : (u : Step) → T (plain u) → T (same_step u Ended) → ⊥
not_end u p = T_not (same_step u Ended) (search (and_l, and_r))

module _ (q : Request) (s : SavedCall) (a : ℕ) (t : Step) (fresh : Fresh t s) (stopping : Stopping q t s) where
  flushed_by : (n : Effect) → Fits q s t n → T (flush_ok (step_of n) (same_step t FlushTxis) (same_step t NackClear))
  flushed_by n f = and_l (flush_ok (step_of n) (same_step t FlushTxis) (same_step t NackClear)) _ f.edge

  fresh_by : (n : Effect) → Fits q s t n → T (in_event (step_of n)) → (s.piece ≡ 0) × (s.byte ≡ 0) × (s.out ≡ 0)
  fresh_by n f e = fresh (only_use (in_event (step_of n)) (T (in_event t)) e (from_event t (step_of n) f.edge))

  -- it ends as done only past the last byte of its last piece
  ends : (o : Outcome) → Fits q s t (Ends o) → Finished q (apply_of s a (Ends o))
  ends o f _ d x w =
      let y : T (same_step t StopClear) × (o ≡ s.outcome) =
      only_use (is_done o && transaction q.call) _ (and_in (is_done o) (transaction q.call) d x) f.why.0 in
      let r : T (last_in q s && not (there_in q s)) =
      or_else (failing q.call s) _ (stopping y.0 x) (going (transaction q.call) (is_done s.outcome) (rw y.1 at d)) in
      all_out w q s s.byte (search and_l) (past q s (search and_r))
    where
      going : (x e : Bool) → T e → T (not (x && not e))
      going true true h = tt
      going true false h = h
      going false e h = tt

  plainly : (s' : SavedCall) → T (plain s'.step) → T (flush_ok s'.step (same_step t FlushTxis) (same_step t NackClear)) →
      ((w : Bool) → ahead_of w q s' ≡ ahead_of w q s) → Fresh s'.step s' → Onward q t s s'
  plainly s' p f h g = record {
    ahead = h;
    flush = f;
    fresh = g;
    stopping = λ e _. absurd (T_not (same_step s'.step StopClear) (search (and_l, and_r)) e);
    finished = λ e _ _. absurd (not_end s'.step p e);
  }

  onward : (n : Effect) → Fits q s t n → Onward q t s (apply_of s a n)
  onward (Goes u) f = record {
    ahead = λ w. refl;
    flush = flushed_by (Goes u) f;
    fresh = fresh_by (Goes u) f;
    stopping = λ e x.
        only_use (same_step u StopClear && transaction q.call) _ (and_in (same_step u StopClear) (transaction q.call) e x) f.why.1;
    finished = λ e _ _. absurd (T_not (same_step u Ended) f.why.2 e);
  }
  onward (Loads u) f = plainly _ f.why (flushed_by (Loads u) f) (λ w. refl) (fresh_by (Loads u) f)
  onward (Notes o u) f = plainly _ f.why.0 (flushed_by (Notes o u) f) (λ w. refl) (fresh_by (Notes o u) f)
  onward (Next u) f =
      plainly _ f.why.2 (flushed_by (Next u) f)
      (λ w. sym (ahead_next w 0 (pieces_of q) s.piece s.byte (past q s f.why.0)))
      (λ e. absurd (T_not (in_event u) f.why.3 e))
  onward (Enters u) f =
      let z = fresh f.why.0 in
      plainly _ f.why.1 (flushed_by (Enters u) f) (λ w. rw (z.0, z.1)) (λ _. (refl, refl, refl))
  onward (Fails o) f = plainly _ tt (flushed_by (Fails o) f) (λ w. refl) (λ e. absurd e)
  onward (Ends o) f = record {
    ahead = λ w. refl;
    flush = flushed_by (Ends o) f;
    fresh = λ e. absurd e;
    stopping = λ e _. absurd e;
    finished = ends o f;
  }

-- what a step notes first, but BYTE, is not of bytes
module _ (q : Request) (s : SavedCall) (a : ℕ) (t : Step) where
  pub by_noted : (P : ℕ → ℕ → ℕ → Type 0) → T (not (same_step t Byte)) → P s.piece s.byte s.out →
      P (noted (view_of q s) s a t).piece (noted (view_of q s) s a t).byte (noted (view_of q s) s a t).out
  by_noted P n h =
      by_test Q (same_step t Byte) (λ y. absurd (T_not (same_step t Byte) n y)) (λ _. by_test Q (same_step t Address) (λ _. h) (λ _. h))
    where
      Q : SavedCall → Type 0
      Q s' = P s'.piece s'.byte s'.out

  noted_ahead : T (not (same_step t Byte)) → (w : Bool) → ahead_of w q (noted (view_of q s) s a t) ≡ ahead_of w q s
  noted_ahead n w = by_noted (λ i j o. ahead_from w 0 (pieces_of q) i j ≡ ahead_of w q s) n refl

  pub noted_fresh : Fresh t s → Fresh t (noted (view_of q s) s a t)
  noted_fresh h e =
      both (same_step t Byte) (λ y. absurd (rw (is_eq t Byte y) at e)) (λ n. by_noted (λ i j o. (i ≡ 0) × (j ≡ 0) × (o ≡ 0)) n (h e))

  noted_stopping : Stopping q t s → Stopping q t (noted (view_of q s) s a t)
  noted_stopping h e x = let o : T (over q s) = h e x in rw (is_eq t StopClear e) o

-- ---- The invariant

-- what was seen of a log: whether the entry before the last and the last were a written ICR 0x10, and the bytes
pub record Seen : Type 0 where
  pub two : Bool
  pub one : Bool
  pub out : List ℕ
  pub got : List ℕ

abbrev pub note : Seen → Entry → Seen
note z e = record { two = z.one; one = is_nack_clear e; out = z.out ++ out_of z.two e; got = z.got ++ in_of e }

abbrev pub unseen : Seen
unseen = record { two = false; one = false; out = []; got = [] }

pub record Inv (q : Request) (x : Front) (z : Seen) (s : SavedCall) (b : List ℕ) : Type 0 where
  pub accepted : T (accepts q s)
  pub flush : T (flush_ok s.step z.two z.one)
  pub fresh : Fresh s.step s
  pub stopping : Stopping q s.step s
  pub finished : Finished q s
  pub moved : Moves q x (front_of q s b) z.out z.got

-- BYTE does not come two entries after NACK_CLEAR, so its TXDR write is no flush
pub not_two : (two one : Bool) → T (flush_ok Byte two one) → two ≡ false
not_two true true h = absurd h
not_two true false h = absurd h
not_two false one h = refl

-- what is known of BYTE
abbrev pub AtByte : Request → SavedCall → Type 0
AtByte q s = T (same_step s.step Byte) → T (there_in q s) × (s.piece < length (pieces_of q))

pub at_byte_holds : (q : Request) (s : SavedCall) → Known q s → AtByte q s
at_byte_holds q s k y =
    let m = rw (is_eq s.step Byte y) at k.taken in
    let z : 0 < length (pieces_of q) = ltb→lt 0 (length (pieces_of q)) (move_some q m) in
    (only_use (same_step s.step Byte) (T (there_in q s)) y k.byte_there_holds, omega (arith, k.piece))

module _ (q : Request) (s : SavedCall) (b : List ℕ) (a : ℕ) (two one : Bool)
    (flush : T (flush_ok s.step two one)) where
  abbrev x : Access
  x = access_at q.call q.words (view_of q s) b s s.step

  entry_mark : is_nack_clear (entry_of x a) ≡ same_step s.step NackClear
  entry_mark =
      both (same_step s.step Byte)
      (λ y. rw (is_eq s.step Byte y)
      (by_test (λ x. is_nack_clear (entry_of x a) ≡ false) (reads_in q s) (λ _. refl) (λ _. refl)))
      (λ n. (quiet q b s a s.step two one n flush).mark)

  entry_moves : AtByte q s →
      Moves q (front_of q s b) (front_of q (noted (view_of q s) s a s.step) (store_of x a b))
      (out_of two (entry_of x a)) (in_of (entry_of x a))
  entry_moves h =
      both (same_step s.step Byte)
      (λ y.
      let k = h y in
      let e = is_eq s.step Byte y in
      rw (e, not_two two one (rw e at flush)) (byte_moves q s b a k.1 k.0))
      (λ n.
      let k = quiet q b s a s.step two one n flush in
      rw (k.out, k.got, k.store, noted_ahead q s a s.step n false, noted_ahead q s a s.step n true)
      (still q (front_of q s b)))

  -- the marks move on by one entry
  marks_after : (u : Step) → T (flush_ok u (same_step s.step FlushTxis) (same_step s.step NackClear)) →
      T (flush_ok u one (is_nack_clear (entry_of x a)))
  marks_after u f =
      let e = same one (same_step s.step FlushTxis) (and_l (beq one (same_step s.step FlushTxis)) _ flush) in
      rw (e, entry_mark) f

-- a step that is taken, with what the table says of it
pub record Taken (q : Request) (s : SavedCall) (a : ℕ) : Type 0 where
  pub known : Known q s
  pub live : T (not (same_step s.step Ended))
  pub fits : Fits q (noted_in q s a) s.step (then_in q s a)

pub step_taken : (q : Request) (b : List ℕ) (s : SavedCall) (a : ℕ) →
    T (accepts q s) → T (made (access_of q b s)) → Taken q s a
unfolding access_of
step_taken q b s a h m =
    let n : T (not (same_step s.step Ended)) = not_T (same_step s.step Ended) (λ e. rw (is_eq s.step Ended e) at m) in
    let k : Known q s = known q s h n in
    record { known = k; live = n; fits = fits q _ a s.step (notes_well q s a s.step k).piece n k.taken }

pub keeps : (q : Request) (x : Front) → Keeps q Seen note (Inv q x)
unfolding access_of
keeps q x z s b a v h =
    let k : Taken q s a = step_taken q b s a v.accepted h in
    let t : Step = s.step in
    let s' : SavedCall = noted_in q s a in
    let r : Fresh t s' = noted_fresh q s a t v.fresh in
    let o = onward q s' a t r (noted_stopping q s a t v.stopping) (then_in q s a) k.fits in
    subst⁻¹ (λ (y : SavedCall). Inv q x (note z (entry_of (access_of q b s) a)) y (store_of (access_of q b s) a b)) (after_noted q s a)
    (record {
      accepted = subst (λ (y : SavedCall). T (accepts q y)) (after_noted q s a) (accepted_after q s a v.accepted);
      flush = marks_after q s b a z.two z.one v.flush (apply_of s' a (then_in q s a)).step o.flush;
      fresh = o.fresh;
      stopping = o.stopping;
      finished = o.finished;
      moved = rw (o.ahead false, o.ahead true)
          (after q x (front_of q s b) _ z.out z.got _ _ v.moved
          (entry_moves q s b a z.two z.one v.flush (at_byte_holds q s k.known)));
    })

-- a call begins at no clear of a flag, and has ended only if it has no piece
abbrev starting : Request → Step → Bool
starting q t = flush_ok t false false && (not (same_step t StopClear) && (not (same_step t Ended) || not (has_pieces q)))

start_at_holds : (q : Request) → T (starting q (begin_at q.call (has_pieces q)))
start_at_holds q = search (by_test (λ t. T (starting q t)), tt) depth 16

abbrev pub whole : Request → List ℕ → Front
whole q b = record {
  bytes = bytes_at b (places_from false 0 (pieces_of q));
  places = places_from true 0 (pieces_of q);
  buffer = b;
}

pub begins : (q : Request) (b : List ℕ) → Inv q (whole q b) unseen (begin_of q) b
unfolding begin_of
begins q b =
    let t : Step = begin_at q.call (has_pieces q) in
    let r : T (starting q t) = start_at_holds q in
    record {
      accepted = accepted_begin q;
      flush = and_l (flush_ok t false false) _ r;
      fresh = λ _. (refl, refl, refl);
      stopping = λ e _. absurd (T_not (same_step t StopClear) (search (and_l, and_r)) e);
      finished = λ e _ _ w. ahead_none w 0 (pieces_of q) 0 0 (nltb→le 0 (length (pieces_of q))
          (only_use (same_step t Ended) (T (not (has_pieces q))) e (only_if (same_step t Ended) (not (has_pieces q)) (search and_r))));
      moved = rw (ahead_all false 0 (pieces_of q), ahead_all true 0 (pieces_of q)) (still q (whole q b));
    }

-- what is read off entry by entry is what the log says
pub seen_out : (z : Seen) (es : List Entry) → (read_log note z es).out ≡ z.out ++ put_out_from z.two z.one es
seen_out z [] = rw append-nil
seen_out z (e ∷ es) = seen_out (note z e) es ∙ append_assoc z.out _ _

pub seen_got : (z : Seen) (es : List Entry) → (read_log note z es).got ≡ z.got ++ taken_in es
seen_got z [] = rw append-nil
seen_got z (e ∷ es) = seen_got (note z e) es ∙ append_assoc z.got _ _

-- ---- What it says of the uncut run

module _ (q : Request) (k : ℕ) (b l : List ℕ) where
  abbrev U : Uncut
  U = uncut_of q k (begin_of q) b l

  holds : Inv q (whole q b) (read_log note unseen U.log) U.saved U.buffer
  holds = along q Seen note (Inv q (whole q b)) (keeps q (whole q b)) k unseen (begin_of q) b l (begins q b)

  pub run_moves : Moves q (whole q b) (front_of q U.saved U.buffer) (put_out U.log) (taken_in U.log)
  run_moves = rw (seen_out unseen U.log, seen_got unseen U.log) at holds.moved

  pub run_done : T (transaction q.call) → (n : ℕ) → EndedAs (Done n) U → (w : Bool) → ahead_of w q U.saved ≡ []
  run_done x n e = holds.finished (rw e.ended tt) (rw e.outcome tt) x
