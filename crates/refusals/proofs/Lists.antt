-- The loop over an operation list: what is found so far, and what the operations that are left add. Assumes nothing.
use Prim.Native.Nat.{ℕ, ◌+◌, ◌*◌, ◌≤◌, ◌<◌}
use native.Mathlib.Nat.{add_assoc, add-zero, zero-add}
use native.Mathlib.Numerals.{add-one}
use native.Mathlib.Omega.{arith}
use mathlib.Core.Path.{◌≡◌}
use mathlib.Core.Bool.{Bool, false, ◌||◌, or_assoc, or-false}
use mathlib.Core.List.{List}
use lib.ListN.{length, get_or, drop, drop_of_length-le}
use lib.Seq.{drop-cons}
use mir.Syntax.{w32}
use mir.Val.{Fits}
use Rattle.calls.specs.Pieces.{operation_length}
use Rattle.calls.specs.Refusals.{length_of, strange_bits, total, any_of}
use Rattle.fields.proofs.Laws.{get_lt}
use Rattle.refusals.specs.Rows.{survey_of}
use Rattle.refusals.specs.declared.Survey.{Survey}

abbrev pub onward : Bool → ℕ → List ℕ → Survey
onward strange sum ops = record {
  strange = strange || any_of strange_bits ops;
  total = sum + total ops;
}

pub survey_starts : (ops : List ℕ) → onward false 0 ops ≡ survey_of ops
survey_starts ops = rw zero-add

module _ (ops : List ℕ) (i : ℕ) (strange : Bool) (sum : ℕ) (all : onward strange sum (drop i ops) ≡ survey_of ops) where
  pub survey_ends : length ops ≤ i → record { strange = strange; total = sum } ≡ survey_of ops
  survey_ends h = simp (drop_of_length-le ops h, or-false, add-zero) at all

  module _ (some : i < length ops) (n : ℕ) (is : n ≡ length_of (get_or ops i 0)) where
    pub survey_next : (x : Bool) → x ≡ strange_bits (get_or ops i 0) → onward (strange || x) (sum + n) (drop (i + 1) ops) ≡ survey_of ops
    survey_next x p = rw (p, is) (simp (add-one, or_assoc, add_assoc) (rw (drop-cons ops i 0 some) at all))

    pub sum_low : sum ≤ 65535 * i → sum + n ≤ 65535 * (i + 1)
    sum_low h = omega (arith, get_lt (get_or ops i 0) operation_length)

    pub sum_fits : length ops ≤ 64 → sum ≤ 65535 * i → Fits w32 (sum + n)
    sum_fits l h = record { fits = omega (arith, get_lt (get_or ops i 0) operation_length) }

pub ruleset survey-turns = (survey_starts, survey_ends, survey_next, sum_low, sum_fits)
