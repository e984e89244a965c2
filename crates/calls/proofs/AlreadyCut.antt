-- R-1: the pieces of a list are document 01's for the list already cut. `long_cards` is the theorem. Assumes nothing.
use Prim.Native.Nat.{ℕ, zero, suc, ◌+◌, ◌-◌, ◌*◌, ◌/◌, ◌%◌, ◌^◌, ◌≤◌, ◌<◌, min, max}
use native.Mathlib.Omega.{arith}
use mathlib.Core.Logic.{◌≢◌}
use mathlib.Core.Path.{◌≡◌, refl, sym, ap, ap₂, ◌∙◌}
use mathlib.Core.Bool.{Bool, true, false, not}
use mathlib.Core.List.{List, [], ◌∷◌, ◌++◌, map, map-append}
use lib.Dec.{T, T_not, eqb, leb, eqb→eq, leb→le, nleb→lt}
use lib.ListN.{length, length-append, set}
use Rattle.fields.specs.Field.{get_of, bits_at, flag_of}
use Rattle.calls.specs.AlreadyCut.{word_of, lengths, words_cut, already_cut, cut_request, sizes, Cuts, AsCut, NoNine, LongCards}
use Rattle.calls.specs.Calls.{Request, transaction}
use Rattle.calls.specs.Pieces.{Piece, operation_read, piece_of, piece_at, blocks_of, cut_of, list_pieces, pieces_for, pieces_of}
use Rattle.calls.specs.Refusals.{length_of, total, accepts}
use Rattle.calls.specs.Run.{byte_of, Uncut, uncut_turn, uncut_of}
use Rattle.calls.specs.Steps.{access_of, after_of, begin_of}
use Rattle.calls.specs.declared.Access.{Access}
use Rattle.calls.specs.declared.Access.TheVariants.{Read, Take, Write, Nothing}
use Rattle.calls.specs.declared.Refusal.TheVariants.{Address, List as BadList, Buffer, NoSuchCall, SavedCall as BadSavedCall}
use Rattle.calls.specs.declared.SavedCall.{SavedCall}
use Rattle.calls.proofs.Counts.{block_size, block_count}
use Rattle.calls.proofs.Fits.{block_reads}
use Rattle.calls.proofs.Logic.{by_test, is_true}
use Rattle.calls.proofs.Places.{sizes_cut, sizes_list}

-- ---- one operation

length_below : (o : ℕ) → length_of o ≤ 65535
unfolding get_of bits_at
length_below o = omega arith

not_none : (n : ℕ) → T (not (eqb n 0)) → n ≢ 0
not_none n h e = T_not (eqb n 0) h (rw e tt)

word_piece : (w : Bool) (n : ℕ) → n ≤ 65535 → piece_of (word_of w n) ≡ record { size = n; reads = w }
unfolding get_of bits_at
word_piece true n h =
    let e : (n + 65536) / 2 ^ 0 % 2 ^ 16 ≡ n = omega arith in
    let f : (n + 65536) / 2 ^ 16 % 2 ^ 1 ≡ 1 = omega arith in
    rw (e, f)
word_piece false n h =
    let e : (n + 0) / 2 ^ 0 % 2 ^ 16 ≡ n = omega arith in
    let f : (n + 0) / 2 ^ 16 % 2 ^ 1 ≡ 0 = omega arith in
    rw (e, f)

blocks_none : (w : Bool) (f : ℕ) → blocks_of w f 0 ≡ []
blocks_none w zero = refl
blocks_none w (suc f) = refl

-- at most 255 bytes are one block
one_block : (w : Bool) (f n : ℕ) → n ≤ f → n ≢ 0 → n ≤ 255 → blocks_of w f n ≡ record { size = n; reads = w } ∷ []
one_block w zero n h z l = absurd (z (omega arith))
one_block w (suc f) zero h z l = absurd (z refl)
one_block w (suc f) (suc n) h z l =
    let e : min 255 (suc n) ≡ suc n = omega arith in
    let g : suc n - 255 ≡ 0 = omega arith in
    rw (e, g) (ap {B = List Piece} (λ ps. record { size = suc n; reads = w } ∷ ps) (blocks_none w f))

-- blocks of 255, until at most 255 bytes are left
blocks_cut : (w : Bool) (f n : ℕ) → n ≤ f → n ≢ 0 → n ≤ 65535 → blocks_of w f n ≡ map piece_of (map (word_of w) (lengths f n))
blocks_cut w zero n h z l = absurd (z (omega arith))
blocks_cut w (suc f) zero h z l = absurd (z refl)
blocks_cut w (suc f) (suc n) h z l =
    by_test (λ ns. blocks_of w (suc f) (suc n) ≡ map piece_of (map (word_of w) ns)) (leb (suc n) 255)
    (λ t. one_block w (suc f) (suc n) h z (leb→le (suc n) 255 t) ∙ rw (word_piece w (suc n) l))
    (λ t.
    let k : 255 < suc n = nleb→lt (suc n) 255 t in
    let e : min 255 (suc n) ≡ 255 = omega arith in
    rw (e, word_piece w 255 (omega arith))
    (ap {B = List Piece} (λ ps. record { size = 255; reads = w } ∷ ps)
    (blocks_cut w f (suc n - 255) (omega arith) (λ x. omega arith) (omega arith))))

cut_words : (o : ℕ) → cut_of (piece_of o) ≡ map piece_of (words_cut o)
cut_words o =
    by_test (λ ps. ps ≡ map piece_of (words_cut o)) (eqb (length_of o) 0)
    (λ t. rw (eqb→eq (length_of o) 0 t, word_piece (flag_of o operation_read) 0 (omega arith)))
    (λ t. blocks_cut (flag_of o operation_read) (length_of o) (length_of o) (omega arith) (not_none (length_of o) t) (length_below o))

pub cut_count : (p : Piece) → length (cut_of p) ≡ max 1 ((p.size + 254) / 255)
cut_count p =
    by_test (λ ps. length ps ≡ max 1 ((p.size + 254) / 255)) (eqb p.size 0) (λ t. rw (eqb→eq p.size 0 t))
    (λ t. omega (arith, block_count p.reads p.size p.size (omega arith), not_none p.size t))

pub cuts : (o : ℕ) → Cuts o
cuts o =
    record {
      some = by_test (λ ps. 1 ≤ length ps) (eqb n 0) (λ _. omega arith) (λ t. omega (arith, block_count w n n (omega arith), not_none n t));
      sum = sizes_cut (piece_of o);
      reads =
          by_test (λ ps. (i : ℕ) → i < length ps → (piece_at ps i).reads ≡ w) (eqb n 0) (λ _. single) (λ _. block_reads w n n);
      full =
          by_test (λ ps. (i : ℕ) → i + 1 < length ps → (piece_at ps i).size ≡ 255) (eqb n 0) (λ _ i h. absurd (omega arith))
          (λ _ i h. omega (arith, h, block_size w n n i (omega arith), block_count w n n (omega arith)));
      at_most = at_most;
      at_least = λ z.
          by_test (λ ps. (i : ℕ) → i < length ps → 1 ≤ (piece_at ps i).size) (eqb n 0) (λ t. absurd (z (eqb→eq n 0 t)))
          (λ _ i h. omega (arith, h, block_size w n n i (omega arith), block_count w n n (omega arith)));
    }
  where
    n : ℕ
    n = length_of o

    w : Bool
    w = flag_of o operation_read

    single : (i : ℕ) → i < 1 → (piece_at (piece_of o ∷ []) i).reads ≡ w
    single zero h = refl
    single (suc i) h = absurd (omega arith)

    empty : (i : ℕ) → n ≡ 0 → (piece_at (piece_of o ∷ []) i).size ≤ 255
    empty zero e = omega (arith, e)
    empty (suc i) e = omega arith

    at_most : (i : ℕ) → (piece_at (cut_of (piece_of o)) i).size ≤ 255
    at_most i =
        by_test (λ ps. (piece_at ps i).size ≤ 255) (eqb n 0) (λ t. empty i (eqb→eq n 0 t))
        (λ _. omega (arith, block_size w n n i (omega arith)))

-- ---- the list

list_cut : (os : List ℕ) → list_pieces os ≡ map piece_of (already_cut os)
list_cut [] = refl
list_cut (o ∷ os) =
    ap₂ ◌++◌ (cut_words o) (list_cut os) ∙ sym (map-append piece_of (words_cut o) (already_cut os))

short_append : (ps rs : List Piece) → ((i : ℕ) → (piece_at ps i).size ≤ 255) → ((i : ℕ) → (piece_at rs i).size ≤ 255) →
    (i : ℕ) → (piece_at (ps ++ rs) i).size ≤ 255
short_append [] rs h g i = g i
short_append (p ∷ ps) rs h g zero = h zero
short_append (p ∷ ps) rs h g (suc i) = short_append ps rs (λ i. h (suc i)) g i

pub list_short : (os : List ℕ) (i : ℕ) → (piece_at (list_pieces os) i).size ≤ 255
list_short [] i = omega arith
list_short (o ∷ os) i = short_append (cut_of (piece_of o)) (list_pieces os) (cuts o).at_most (list_short os) i

-- few pieces: of 64 operations of 65,535 bytes together at most 321 by this bound
pub list_few : (os : List ℕ) → 255 * length (list_pieces os) ≤ 255 * length os + total os
list_few [] = omega arith
list_few (o ∷ os) = omega (arith, length-append (cut_of (piece_of o)) (list_pieces os), cut_count (piece_of o), list_few os)

-- operations of at most 255 bytes are their own pieces
one_piece : (p : Piece) → p.size ≤ 255 → cut_of p ≡ p ∷ []
one_piece p l =
    by_test (λ ps. ps ≡ p ∷ []) (eqb p.size 0) (λ _. refl)
    (λ t. one_block p.reads p.size p.size (omega arith) (not_none p.size t) l)

short_list : (os : List ℕ) → ((i : ℕ) → (piece_at (map piece_of os) i).size ≤ 255) → list_pieces os ≡ map piece_of os
short_list [] h = refl
short_list (o ∷ os) h = ap₂ ◌++◌ (one_piece (piece_of o) (h 0)) (short_list os (λ i. h (suc i)))

sizes_words : (os : List ℕ) → sizes (map piece_of os) ≡ total os
sizes_words [] = refl
sizes_words (o ∷ os) = omega (arith, sizes_words os)

sum_cut : (os : List ℕ) → total (already_cut os) ≡ total os
sum_cut os = sym (sizes_words (already_cut os)) ∙ ap sizes (sym (list_cut os)) ∙ sizes_list os

cut_twice : (os : List ℕ) → list_pieces (already_cut os) ≡ list_pieces os
cut_twice os = short_list (already_cut os) (λ i. rw (← list_cut os) (list_short os i)) ∙ sym (list_cut os)

-- ---- the run: an access and what follows it go by the pieces alone

module _ (q : Request) (x : T (transaction q.call)) where
  same_pieces : pieces_of q ≡ pieces_of (cut_request q)
  unfolding pieces_for
  same_pieces = rw (is_true (transaction q.call) x) (sym (cut_twice q.operations))

  same_access : (s : SavedCall) (b : List ℕ) → access_of q b s ≡ access_of (cut_request q) b s
  unfolding access_of
  same_access s b = rw same_pieces

  same_after : (s : SavedCall) (a : ℕ) → after_of q s a ≡ after_of (cut_request q) s a
  unfolding after_of
  same_after s a = rw same_pieces

  same_turn : (go go' : SavedCall → List ℕ → List ℕ → Uncut) → ((s : SavedCall) (b l : List ℕ) → go s b l ≡ go' s b l) →
      (s : SavedCall) (b l : List ℕ) (y : Access) → uncut_turn go q s b l y ≡ uncut_turn go' (cut_request q) s b l y
  same_turn go go' ih s b l Nothing = refl
  same_turn go go' ih s b l (Write r v) = rw (← same_after s 0, ih (after_of q s 0) b l)
  same_turn go go' ih s b [] (Read r) = refl
  same_turn go go' ih s b (a ∷ l) (Read r) = rw (← same_after s a, ih (after_of q s a) b l)
  same_turn go go' ih s b [] (Take i) = refl
  same_turn go go' ih s b (a ∷ l) (Take i) = rw (← same_after s a, ih (after_of q s a) (set b i (byte_of a)) l)

  same_run : (k : ℕ) (s : SavedCall) (b l : List ℕ) → uncut_of q k s b l ≡ uncut_of (cut_request q) k s b l
  unfolding uncut_of
  same_run zero s b l = refl
  same_run (suc k) s b l =
      rw (← same_access s b) (same_turn (uncut_of q k) (uncut_of (cut_request q) k) (same_run k) s b l (access_of q b s))

  same_begin : begin_of q ≡ begin_of (cut_request q)
  unfolding begin_of
  same_begin = rw same_pieces

  same_row : (s : SavedCall) → accepts q s ≡ accepts (cut_request q) s
  unfolding accepts
  same_row s = rw same_pieces

  are_list : pieces_of q ≡ list_pieces q.operations
  unfolding pieces_for
  are_list = rw (is_true (transaction q.call) x)

  as_cut : AsCut q
  as_cut =
      record {
        pieces = are_list ∙ list_cut q.operations;
        short = λ i. rw are_list (list_short q.operations i);
        sum = sum_cut q.operations;
        begin = same_begin;
        run = same_run;
        as_before = λ h. are_list ∙ short_list q.operations h;
        row_13 = same_row;
      }

no_nine : NoNine
no_nine Address e = omega (arith, e)
no_nine BadList e = omega (arith, e)
no_nine Buffer e = omega (arith, e)
no_nine NoSuchCall e = omega (arith, e)
no_nine BadSavedCall e = omega (arith, e)

pub long_cards : LongCards
long_cards = record { cuts = cuts; as_cut = as_cut; no_nine = no_nine }
