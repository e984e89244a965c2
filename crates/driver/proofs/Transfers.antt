-- The pieces of a target transfer by their number: blocks, one piece or none. Assumes nothing.
use Prim.Native.Nat.{ℕ, zero, suc, ◌+◌, ◌-◌, ◌*◌, ◌/◌, ◌≤◌, ◌<◌, min}
use native.Mathlib.Nat.{zero-add}
use native.Mathlib.Omega.{arith}
use borrow.Author.Tests.{ne_eqb}
use mathlib.Core.Path.{◌≡◌, refl, ap, ◌∙◌}
use mathlib.Core.Bool.{Bool, true, false, cond, not, ◌&&◌, ◌||◌, beq}
use mathlib.Core.List.{List, [], ◌∷◌}
use lib.Dec.{eqb, ltb, leb, ltb→lt, nltb→le}
use lib.ListN.{length, get_or-eq_default}
use Rattle.calls.proofs.Counts.{block_size, block_count}
use Rattle.calls.proofs.Fits.{block_reads}
use Rattle.calls.proofs.Logic.{by_test, both, is_true, is_false}
use Rattle.calls.specs.Calls.{manual, receives, transmits}
use Rattle.calls.specs.Pieces.{Piece, blocks_of, transfer_pieces, piece_at, start_from, most_for, view_at}
use Rattle.calls.specs.declared.Call.{Call}

block_start : (w : Bool) (at f n i : ℕ) → n ≤ f → start_from at (blocks_of w f n) i ≡ at + min (255 * i) n
block_start w at zero n i h = omega arith
block_start w at (suc f) zero i h = omega arith
block_start w at (suc f) (suc n) zero h = omega arith
block_start w at (suc f) (suc n) (suc i) h =
    block_start w (at + min 255 (suc n)) f (suc n - 255) i (omega arith) ∙ omega arith

single_size : (w : Bool) (n i : ℕ) → (piece_at (record { size = n; reads = w } ∷ []) i).size ≡ cond (eqb i 0) n 0
single_size w n zero = refl
single_size w n (suc i) = rw (ne_eqb (suc i) 0 (λ e. omega arith))

single_start : (w : Bool) (n i : ℕ) → start_from 0 (record { size = n; reads = w } ∷ []) i ≡ cond (eqb i 0) 0 n
single_start w n zero = refl
single_start w n (suc i) = rw (ne_eqb (suc i) 0 (λ e. omega arith)) (omega arith)

-- pieces that all go one way; past the end is a write
one_way : (w : Bool) (ps : List Piece) → ((i : ℕ) → i < length ps → (piece_at ps i).reads ≡ w) →
    (i : ℕ) → (piece_at ps i).reads ≡ (w && ltb i (length ps))
one_way w ps h i =
    both (ltb i (length ps))
    (λ t. rw (is_true (ltb i (length ps)) t, and_true) (h i (ltb→lt i (length ps) t)))
    (λ t. rw (is_false (ltb i (length ps)) t, and_false)
    (ap (λ (p : Piece). p.reads) (get_or-eq_default ps _ (nltb→le i (length ps) t))))
  where
    and_true : (b : Bool) → (b && true) ≡ b
    and_true true = refl
    and_true false = refl

    and_false : (b : Bool) → (b && false) ≡ false
    and_false true = refl
    and_false false = refl

-- the piece before i, where there is one
before-is : (x w : Bool) (k i : ℕ) → (not (eqb i 0) && beq x (w && leb i k)) ≡ (not (eqb i 0) && beq x (w && ltb (i - 1) k))
before-is x w k zero = refl
before-is x w k (suc i) =
    let e : suc i - 1 ≡ i = omega arith in
    rw e

module _ (c : Call) (n : ℕ) where
  by_kind : {A : Type 0} (f : List Piece → A) → f (transfer_pieces c n) ≡
      cond (receives c || transmits c)
      (cond (manual c) (f (blocks_of (receives c) n n)) (f (record { size = n; reads = receives c } ∷ [])))
      (f [])
  by_kind f = go (receives c || transmits c) (manual c)
    where
      go : (m a : Bool) → f (cond m (cond a (blocks_of (receives c) n n) (record { size = n; reads = receives c } ∷ [])) []) ≡
          cond m (cond a (f (blocks_of (receives c) n n)) (f (record { size = n; reads = receives c } ∷ []))) (f [])
      go true true = refl
      go true false = refl
      go false a = refl

  pub size_is : (i : ℕ) → (piece_at (transfer_pieces c n) i).size ≡
      cond (receives c || transmits c) (cond (manual c) (min 255 (n - 255 * i)) (cond (eqb i 0) n 0)) 0
  size_is i =
      by_kind (λ ps. (piece_at ps i).size)
      ∙ rw (block_size (receives c) n n i (omega arith), single_size (receives c) n i)

  pub start_is : (i : ℕ) → start_from 0 (transfer_pieces c n) i ≡
      cond (receives c || transmits c) (cond (manual c) (min (255 * i) n) (cond (eqb i 0) 0 n)) 0
  start_is i =
      by_kind (λ ps. start_from 0 ps i)
      ∙ rw (block_start (receives c) 0 n n i (omega arith), single_start (receives c) n i, zero-add)

  pub count-is : length (transfer_pieces c n) ≡ cond (receives c || transmits c) (cond (manual c) ((n + 254) / 255) 1) 0
  count-is = by_kind length ∙ rw (block_count (receives c) n n (omega arith))

  reads-is : (i : ℕ) → (piece_at (transfer_pieces c n) i).reads ≡ (receives c && ltb i (length (transfer_pieces c n)))
  reads-is i =
      by_test Q (receives c || transmits c) (λ _.
      by_test Q (manual c)
      (λ _. one_way _ (blocks_of (receives c) n n) (block_reads _ n n) i) (λ _. one_way _ single single_reads i))
      (λ _. one_way (receives c) [] (λ j h. absurd (omega arith)) i)
    where
      Q : List Piece → Type 0
      Q ps = (piece_at ps i).reads ≡ (receives c && ltb i (length ps))

      single : List Piece
      single = record { size = n; reads = receives c } ∷ []

      single_reads : (j : ℕ) → j < 1 → (piece_at single j).reads ≡ receives c
      single_reads zero h = refl
      single_reads (suc j) h = absurd (omega arith)

  -- a view is the one at piece i, if its parts are
  pub view-is : (k i start size most : ℕ) (w same reload : Bool) →
      k ≡ length (transfer_pieces c n) → w ≡ receives c →
      start ≡ start_from 0 (transfer_pieces c n) i → size ≡ (piece_at (transfer_pieces c n) i).size → most ≡ most_for c n →
      same ≡ beq (w && ltb i k) (w && ltb (i + 1) k) → reload ≡ beq (w && ltb i k) (w && leb i k) →
      record {
        start = start;
        size = size;
        most = most;
        reads = w && ltb i k;
        last = leb k (i + 1);
        same = same;
        reload = not (eqb i 0) && reload;
        nonempty = ltb 0 k;
      } ≡ view_at (transfer_pieces c n) (most_for c n) i
  view-is k i start size most w same reload a b d e h f g =
      rw (g, f, h, e, d, before-is, b, a, reads-is i, reads-is (i + 1), reads-is (i - 1))

  pub few : n ≤ 65535 → length (transfer_pieces c n) ≤ 65535
  few h =
      rw count-is
      (by_test P (receives c || transmits c) (λ _. by_test P (manual c) (λ _. omega (arith, h)) (λ _. omega arith)) (λ _. omega arith))
    where
      P : ℕ → Type 0
      P k = k ≤ 65535
