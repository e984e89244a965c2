-- Where piece i of a list lies, and that the view from there is the view of piece i. Assumes nothing.
use Prim.Native.Nat.{ℕ, zero, suc, ◌+◌, ◌-◌, ◌*◌, ◌/◌, ◌≤◌, ◌<◌, min, max}
use native.Mathlib.Nat.{sub-zero}
use native.Mathlib.Numerals.{add-one}
use native.Mathlib.Omega.{arith}
use borrow.Author.Tests.{ne_eqb, lt-ltb, le-ltb, lt-leb, le-leb}
use mathlib.Core.Path.{◌≡◌, refl, sym, ◌∙◌}
use mathlib.Core.Bool.{Bool, true, false, cond, not, ◌&&◌, ◌||◌, beq}
use mathlib.Core.List.{List, [], ◌∷◌, ◌++◌}
use lib.Dec.{T, eqb, ltb, leb, eqb→eq, ltb→lt, nltb→le}
use lib.ListN.{length, get_or, drop, length-append, drop_of_length-le}
use lib.Seq.{drop-cons}
use Rattle.fields.specs.Field.{get_of, bits_at}
use Rattle.calls.proofs.AlreadyCut.{cut_count}
use Rattle.calls.proofs.Counts.{block_size}
use Rattle.calls.proofs.Fits.{block_reads}
use Rattle.calls.proofs.Logic.{by_test, both, is_true, is_false}
use Rattle.calls.specs.Pieces.{Piece, piece_of, cut_of, list_pieces, piece_at, start_from, view_at}
use Rattle.calls.specs.Refusals.{length_of, total}
use Rattle.driver.specs.Views.{pieces_in, position, past, position_of, op_at, goes_on, view_from}
use Rattle.driver.specs.declared.view.Position.{Position}

-- ---- Two lists of pieces, one after the other

at_front : (ps rs : List Piece) (i : ℕ) → i < length ps → piece_at (ps ++ rs) i ≡ piece_at ps i
at_front [] rs i h = absurd (omega arith)
at_front (p ∷ ps) rs zero h = refl
at_front (p ∷ ps) rs (suc i) h = at_front ps rs i (omega arith)

at_back : (ps rs : List Piece) (i : ℕ) → length ps ≤ i → piece_at (ps ++ rs) i ≡ piece_at rs (i - length ps)
at_back [] rs i h = rw sub-zero
at_back (p ∷ ps) rs zero h = absurd (omega arith)
at_back (p ∷ ps) rs (suc i) h =
    let e : suc i - suc (length ps) ≡ i - length ps = omega arith in
    rw e (at_back ps rs i (omega arith))

pub start_first : (at : ℕ) (ps : List Piece) → start_from at ps 0 ≡ at
start_first at [] = refl
start_first at (p ∷ ps) = refl

pub start_next : (at : ℕ) (ps : List Piece) (i : ℕ) → start_from at ps (suc i) ≡ start_from at ps i + (piece_at ps i).size
start_next at [] i = omega arith
start_next at (p ∷ []) zero = refl
start_next at (p ∷ q ∷ ps) zero = refl
start_next at (p ∷ ps) (suc i) = start_next (at + p.size) ps i

-- ---- The pieces of one operation

piece_is : (p : Piece) (size : ℕ) (reads : Bool) → p.size ≡ size → p.reads ≡ reads → p ≡ record { size = size; reads = reads }
piece_is p size reads e f = rw (← e, ← f)

cut_at : (p : Piece) (i : ℕ) → i < length (cut_of p) → piece_at (cut_of p) i ≡ record { size = min 255 (p.size - 255 * i); reads = p.reads }
cut_at p i =
    by_test (λ ps. i < length ps → piece_at ps i ≡ record { size = min 255 (p.size - 255 * i); reads = p.reads }) (eqb p.size 0)
    (λ t. single i (eqb→eq p.size 0 t))
    (λ _ h. piece_is _ _ _ (block_size p.reads p.size p.size i (omega arith)) (block_reads p.reads p.size p.size i h))
  where
    single : (i : ℕ) → p.size ≡ 0 → i < 1 → piece_at (p ∷ []) i ≡ record { size = min 255 (p.size - 255 * i); reads = p.reads }
    single zero e h = let f : min 255 (p.size - 255 * 0) ≡ p.size = omega (arith, e) in rw f
    single (suc i) e h = absurd (omega arith)

-- ---- The piece at a position

abbrev piece_from : List ℕ → Position → Piece
piece_from ops t = record { size = min 255 ((op_at ops t.operation).size - t.at); reads = (op_at ops t.operation).reads }

pub position_piece : (ops : List ℕ) (i : ℕ) → piece_at (list_pieces ops) i ≡ piece_from ops (position_of ops i)
unfolding get_of bits_at
position_piece [] i = refl
position_piece (o ∷ os) i =
    by_test (λ t. piece_at (cut_of (piece_of o) ++ list_pieces os) i ≡ piece_from (o ∷ os) t) (ltb i (pieces_in o))
    (λ h.
    let l : i < length (cut_of (piece_of o)) = omega (arith, ltb→lt i (pieces_in o) h, cut_count (piece_of o)) in
    at_front (cut_of (piece_of o)) (list_pieces os) i l ∙ cut_at (piece_of o) i l)
    (λ h.
    at_back (cut_of (piece_of o)) (list_pieces os) i (omega (arith, nltb→le i (pieces_in o) h, cut_count (piece_of o)))
    ∙ rw (cut_count (piece_of o)) (position_piece os (i - pieces_in o)))

-- ---- From one position to the next

pub position_first : (ops : List ℕ) → position_of ops 0 ≡ position 0 0 0
position_first [] = refl
position_first (o ∷ os) = rw (lt-ltb 0 (pieces_in o) (omega arith))

abbrev next : List ℕ → Position → Position
next ops t =
    cond (goes_on ops t.operation t.at) (position t.operation (t.at + 255) (t.start + 255))
    (position (suc t.operation) 0 (t.start + ((op_at ops t.operation).size - t.at)))

next_past : (o : ℕ) (os : List ℕ) (t : Position) → past o (next os t) ≡ next (o ∷ os) (past o t)
next_past o os t = go (goes_on os t.operation t.at)
  where
    go : (x : Bool) →
        past o (cond x (position t.operation (t.at + 255) (t.start + 255)) (position (suc t.operation) 0 (t.start + ((op_at os t.operation).size - t.at))))
        ≡ cond x (position (suc t.operation) (t.at + 255) (length_of o + t.start + 255))
        (position (suc (suc t.operation)) 0 (length_of o + t.start + ((op_at os t.operation).size - t.at)))
    go true = let e : length_of o + (t.start + 255) ≡ length_of o + t.start + 255 = omega arith in rw e
    go false =
        let m : ℕ = (op_at os t.operation).size - t.at in
        let e : length_of o + (t.start + m) ≡ length_of o + t.start + m = omega arith in rw e

pub position_next : (ops : List ℕ) (i : ℕ) → position_of ops (suc i) ≡ next ops (position_of ops i)
unfolding get_of bits_at
position_next [] i = refl
position_next (o ∷ os) i =
    both (ltb (suc i) (pieces_in o)) inner (λ h. both (ltb i (pieces_in o)) (edge (nltb→le (suc i) (pieces_in o) h)) (beyond (position_next os (i - pieces_in o))))
  where
    m : ℕ
    m = pieces_in o

    inner : T (ltb (suc i) m) → position_of (o ∷ os) (suc i) ≡ next (o ∷ os) (position_of (o ∷ os) i)
    inner h =
        let l : suc i < m = ltb→lt (suc i) m h in
        let e : 255 * suc i ≡ 255 * i + 255 = omega arith in
        rw (lt-ltb (suc i) m l, lt-ltb i m (omega arith), lt-ltb (255 * i + 255) (length_of o) (omega arith), e)

    edge : m ≤ suc i → T (ltb i m) → position_of (o ∷ os) (suc i) ≡ next (o ∷ os) (position_of (o ∷ os) i)
    edge g h =
        let l : i < m = ltb→lt i m h in
        let e : suc i - m ≡ 0 = omega arith in
        let f : length_of o + 0 ≡ 255 * i + (length_of o - 255 * i) = omega arith in
        rw (le-ltb (suc i) m g, lt-ltb i m l, le-ltb (255 * i + 255) (length_of o) (omega arith), e, position_first os, f)

    beyond : position_of os (suc (i - m)) ≡ next os (position_of os (i - m)) → T (not (ltb i m)) →
        position_of (o ∷ os) (suc i) ≡ next (o ∷ os) (position_of (o ∷ os) i)
    beyond ih h =
        let l : m ≤ i = nltb→le i m h in
        let e : suc i - m ≡ suc (i - m) = omega arith in
        rw (le-ltb (suc i) m (omega arith), le-ltb i m l, e, ih) (next_past o os (position_of os (i - m)))

-- ---- What holds of a position

pub position_at : (ops : List ℕ) (i : ℕ) → (position_of ops i).at ≤ (op_at ops (position_of ops i).operation).size
position_at [] i = omega arith
position_at (o ∷ os) i =
    by_test (λ (t : Position). t.at ≤ (op_at (o ∷ os) t.operation).size) (ltb i (pieces_in o))
    (λ h. omega (arith, ltb→lt i (pieces_in o) h)) (λ _. position_at os (i - pieces_in o))

pub position_operation : (ops : List ℕ) (i : ℕ) → (position_of ops i).operation ≤ i
position_operation [] i = omega arith
position_operation (o ∷ os) i =
    by_test (λ (t : Position). t.operation ≤ i) (ltb i (pieces_in o)) (λ _. omega arith)
    (λ h. omega (arith, nltb→le i (pieces_in o) h, position_operation os (i - pieces_in o)))

pub position_start : (ops : List ℕ) (i : ℕ) → (position_of ops i).start ≡ start_from 0 (list_pieces ops) i
position_start ops zero = rw (position_first ops) (sym (start_first 0 (list_pieces ops)))
position_start ops (suc i) =
    rw (position_next ops i, start_next 0 (list_pieces ops) i, ← position_start ops i, position_piece ops i)
    (by_test (λ (t : Position). t.start ≡ u.start + min 255 ((op_at ops u.operation).size - u.at)) (goes_on ops u.operation u.at)
    (λ h. omega (arith, ltb→lt (u.at + 255) (op_at ops u.operation).size h))
    (λ h. omega (arith, nltb→le (u.at + 255) (op_at ops u.operation).size h)))
  where
    u : Position
    u = position_of ops i

-- a piece is there where its operation is
pub position_there : (ops : List ℕ) (i : ℕ) → ltb i (length (list_pieces ops)) ≡ ltb (position_of ops i).operation (length ops)
position_there [] i = refl
position_there (o ∷ os) i =
    rw (length-append (cut_of (piece_of o)) (list_pieces os), cut_count (piece_of o))
    (by_test (λ (t : Position). ltb i (pieces_in o + length (list_pieces os)) ≡ ltb t.operation (suc (length os))) (ltb i (pieces_in o))
    (λ h. let l : i < pieces_in o = ltb→lt i (pieces_in o) h in
    rw (lt-ltb i (pieces_in o + length (list_pieces os)) (omega arith), lt-ltb 0 (suc (length os)) (omega arith)))
    (λ h. back (nltb→le i (pieces_in o) h) (position_there os (i - pieces_in o))))
  where
    j : ℕ
    j = i - pieces_in o

    back : pieces_in o ≤ i → ltb j (length (list_pieces os)) ≡ ltb (position_of os j).operation (length os) →
        ltb i (pieces_in o + length (list_pieces os)) ≡ ltb (suc (position_of os j).operation) (suc (length os))
    back l e =
        both (ltb j (length (list_pieces os)))
        (λ h.
        let x : j < length (list_pieces os) = ltb→lt j (length (list_pieces os)) h in
        let y : (position_of os j).operation < length os = ltb→lt (position_of os j).operation (length os) (rw (← e) h) in
        rw (lt-ltb i (pieces_in o + length (list_pieces os)) (omega arith), lt-ltb (suc (position_of os j).operation) (suc (length os)) (omega arith)))
        (λ h.
        let x : length (list_pieces os) ≤ j = nltb→le j (length (list_pieces os)) h in
        let y : length os ≤ (position_of os j).operation = nltb→le (position_of os j).operation (length os) (rw (← e) h) in
        rw (le-ltb i (pieces_in o + length (list_pieces os)) (omega arith), le-ltb (suc (position_of os j).operation) (suc (length os)) (omega arith)))

-- ---- The view from a position

-- an operation with bytes is there
some_there : (ops : List ℕ) (k : ℕ) → 0 < (op_at ops k).size → k < length ops
unfolding get_of bits_at
some_there [] k h = absurd (omega arith)
some_there (o ∷ os) zero h = omega arith
some_there (o ∷ os) (suc k) h = omega (arith, some_there os k h)

leb-is : (m n : ℕ) → leb m n ≡ not (ltb n m)
leb-is m n =
    both (ltb n m)
    (λ h. rw (lt-ltb n m (ltb→lt n m h), lt-leb m n (ltb→lt n m h)))
    (λ h. rw (le-ltb n m (nltb→le n m h), le-leb m n (nltb→le n m h)))

alike_self : (x : Bool) → beq x x ≡ true
alike_self true = refl
alike_self false = refl

module _ (ops : List ℕ) (i : ℕ) where
  abbrev here : Position
  here = position_of ops i

  last-is : leb (length (list_pieces ops)) (suc i) ≡ (not (goes_on ops here.operation here.at) && leb (length ops) (suc here.operation))
  last-is =
      leb-is (length (list_pieces ops)) (suc i)
      ∙ rw (position_there ops (suc i), position_next ops i)
      (both (goes_on ops here.operation here.at)
      (λ h.
      let l : here.at + 255 < (op_at ops here.operation).size = ltb→lt (here.at + 255) (op_at ops here.operation).size h in
      rw (is_true (goes_on ops here.operation here.at) h, lt-ltb here.operation (length ops) (some_there ops here.operation (omega arith))))
      (λ h. rw (is_false (goes_on ops here.operation here.at) h) (sym (leb-is (length ops) (suc here.operation)))))

  same-is : beq (piece_at (list_pieces ops) i).reads (piece_at (list_pieces ops) (suc i)).reads
      ≡ (goes_on ops here.operation here.at || beq (op_at ops here.operation).reads (op_at ops (suc here.operation)).reads)
  same-is =
      rw (position_piece ops i, position_piece ops (suc i), position_next ops i)
      (both (goes_on ops here.operation here.at)
      (λ h. rw (is_true (goes_on ops here.operation here.at) h) (alike_self (op_at ops here.operation).reads))
      (λ h. rw (is_false (goes_on ops here.operation here.at) h)))

  pub nonempty-is : ltb 0 (length (list_pieces ops)) ≡ ltb 0 (length ops)
  nonempty-is = rw (position_there ops 0, position_first ops)

abbrev Joined : List ℕ → Position → Bool
Joined ops t =
    ltb 0 t.at
    || (not (eqb t.operation 0) && beq (op_at ops t.operation).reads (op_at ops (t.operation - 1)).reads)

reload-is : (ops : List ℕ) (i : ℕ) →
    (not (eqb i 0) && beq (piece_at (list_pieces ops) i).reads (piece_at (list_pieces ops) (i - 1)).reads) ≡ Joined ops (position_of ops i)
reload-is ops zero = rw (position_first ops)
reload-is ops (suc i) =
    let e : suc i - 1 ≡ i = omega arith in
    rw (e, position_piece ops (suc i), position_piece ops i, position_next ops i) (go (position_of ops i))
  where
    go : (u : Position) →
        (not (eqb (suc i) 0) && beq (op_at ops (next ops u).operation).reads (op_at ops u.operation).reads) ≡ Joined ops (next ops u)
    go u =
        rw (ne_eqb (suc i) 0 (λ e. omega arith))
        (both (goes_on ops u.operation u.at)
        (λ h. rw (is_true (goes_on ops u.operation u.at) h, alike_self (op_at ops u.operation).reads, lt-ltb 0 (u.at + 255) (omega arith)))
        (λ h.
        let e : suc u.operation - 1 ≡ u.operation = omega arith in
        rw (is_false (goes_on ops u.operation u.at) h, e, ne_eqb (suc u.operation) 0 (λ e. omega arith))))

pub list-view-is : (ops : List ℕ) (i : ℕ) → view_from ops (position_of ops i) ≡ view_at (list_pieces ops) 0 i
list-view-is ops i =
    let e : i + 1 ≡ suc i = omega arith in
    let f : (position_of ops i).operation + 1 ≡ suc (position_of ops i).operation = omega arith in
    rw (
      e,
      f,
      position_start ops i,
      ← nonempty-is ops i,
      ← reload-is ops i,
      ← same-is ops i,
      ← last-is ops i,
      position_piece ops i,
    )

-- ---- The loop that finds a position: of operation k on, with the pieces and the bytes before it

abbrev pub shifted : ℕ → ℕ → Position → Position
shifted k start t = position (k + t.operation) t.at (start + t.start)

pub position_begins : (ops : List ℕ) (i : ℕ) → shifted 0 0 (position_of ops i) ≡ position_of ops i
position_begins ops i =
    let e : 0 + (position_of ops i).operation ≡ (position_of ops i).operation = omega arith in
    let f : 0 + (position_of ops i).start ≡ (position_of ops i).start = omega arith in
    rw (e, f)

module _ (ops : List ℕ) (i k left start : ℕ) (all : shifted k start (position_of (drop k ops) left) ≡ position_of ops i) where
  module _ (some : k < length ops) (size pieces : ℕ) (is : size ≡ (op_at ops k).size) (many : pieces ≡ max 1 ((size + 254) / 255)) where
    pub position_here : left < pieces → position k (255 * left) (start + 255 * left) ≡ position_of ops i
    position_here h =
        let e : k + 0 ≡ k = omega arith in
        let l : left < pieces_in (get_or ops k 0) = rw (← is, ← many) h in
        rw (drop-cons ops k 0 some, lt-ltb left (pieces_in (get_or ops k 0)) l, e) at all

    pub position_further : pieces ≤ left → shifted (k + 1) (start + size) (position_of (drop (k + 1) ops) (left - pieces)) ≡ position_of ops i
    position_further h =
        let t : Position = position_of (drop (suc k) ops) (left - pieces_in (get_or ops k 0)) in
        let e : suc k + t.operation ≡ k + suc t.operation = omega arith in
        let f : start + length_of (get_or ops k 0) + t.start ≡ start + (length_of (get_or ops k 0) + t.start) = omega arith in
        let l : pieces_in (get_or ops k 0) ≤ left = rw (← is, ← many) h in
        rw (many, is, add-one, e, f) (rw (drop-cons ops k 0 some, le-ltb left (pieces_in (get_or ops k 0)) l) at all)

    -- the bytes from there on
    pub total_further : total (drop k ops) ≡ size + total (drop (k + 1) ops)
    total_further = rw (drop-cons ops k 0 some, add-one, is)

  pub position_past : length ops ≤ k → position (k + left) 0 start ≡ position_of ops i
  position_past h = let e : start + 0 ≡ start = omega arith in rw (drop_of_length-le ops h, e) at all
