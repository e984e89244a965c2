-- The rows of a file's table. Assumes nothing.
use Prim.Native.Nat.{ℕ, suc, ◌+◌, ◌-◌, ◌≤◌, ◌<◌}
use native.Mathlib.Omega.{arith}
use mathlib.Core.Path.{◌≡◌, sym}
use mathlib.Core.Bool.{Bool, true, false, not}
use mathlib.Core.List.{List}
use lib.Dec.{eqb}
use lib.ListN.{length, drop}
use Rattle.benchfile.specs.File.{body_size, row_wrong, rows_wrong}

-- the rows from `table` on, those after the first i, decide
module _ (n i : ℕ) (rows bodies table left : List ℕ)
    (same : rows_wrong n rows bodies ≡ rows_wrong (n - i) table left) where
  pub rows_end : n ≤ i → not (eqb (length left) 0) ≡ rows_wrong n rows bodies
  unfolding rows_wrong
  rows_end h = (let e : n - i ≡ 0 = omega arith in sym (rw e at same))

  module _ (r : Bool) (some : i < n) (is : r ≡ row_wrong table left) where
    pub row_wrong_holds : r ≡ true → true ≡ rows_wrong n rows bodies
    unfolding rows_wrong
    row_wrong_holds h = (let e : n - i ≡ suc (n - (i + 1)) = omega arith in sym (rw (e, ← is, h) at same))

    pub row_right : r ≡ false → (size : ℕ) (t b : List ℕ) →
        size ≡ body_size table → t ≡ drop 4 table → b ≡ drop size left → rows_wrong n rows bodies ≡ rows_wrong (n - (i + 1)) t b
    unfolding rows_wrong
    row_right h size t b f g e = rw (g, e, f) (let k : n - i ≡ suc (n - (i + 1)) = omega arith in rw (k, ← is, h) at same)

pub ruleset turns = (rows_end, row_wrong_holds, row_right)
