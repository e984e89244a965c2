-- The bytes at the start of a list that a test takes, and the others. Assumes nothing.
use Prim.Native.Nat.{ℕ, ◌+◌, ◌<◌}
use mathlib.Core.Path.{◌≡◌, refl, ap}
use mathlib.Core.Bool.{Bool, true, false, cond}
use mathlib.Core.List.{List, [], ◌∷◌, ◌++◌}
use native.Mathlib.Omega.{arith}
use native.Mathlib.Nat.{add_comm}
use native.Mathlib.Numerals.{add-one}
use lib.ListN.{length, take, drop, length-append}
use Rattle.std.specs.List.{prefix_len}
use Rattle.numerals.specs.Words.{blank_is, take_while, drop_while, first_word, after_word}

module _ (p : ℕ → Bool) where
  pub taken : (s : List ℕ) → take (prefix_len p s) s ≡ take_while p s
  taken [] = refl
  taken (b ∷ s) = by (p b) (taken s)
    where
      by : (q : Bool) → take (prefix_len p s) s ≡ take_while p s → take (cond q (1 + prefix_len p s) 0) (b ∷ s) ≡ cond q (b ∷ take_while p s) []
      by true h = rw (add_comm 1 (prefix_len p s), add-one) (cc)
      by false h = refl

  pub left : (s : List ℕ) → drop (prefix_len p s) s ≡ drop_while p s
  left [] = refl
  left (b ∷ s) = by (p b) (left s)
    where
      by : (q : Bool) → drop (prefix_len p s) s ≡ drop_while p s → drop (cond q (1 + prefix_len p s) 0) (b ∷ s) ≡ cond q (drop_while p s) (b ∷ s)
      by true h = rw (add_comm 1 (prefix_len p s), add-one) h
      by false h = refl

  whole : (s : List ℕ) → take_while p s ++ drop_while p s ≡ s
  whole [] = refl
  whole (b ∷ s) = by (p b) (whole s)
    where
      by : (q : Bool) → take_while p s ++ drop_while p s ≡ s → cond q (b ∷ take_while p s) [] ++ cond q (drop_while p s) (b ∷ s) ≡ b ∷ s
      by true h = cc
      by false h = refl

  lengths : (s : List ℕ) → length (take_while p s) + length (drop_while p s) ≡ length s
  lengths s = simp length-append at (ap length (whole s))

-- a caller's loop over the words of a text ends
pub falls : (s : List ℕ) → 0 < length (first_word s) → length (after_word s) < length s
falls s h = omega (arith, lengths (blank_is false) (drop_while (blank_is true) s), lengths (blank_is true) s)
