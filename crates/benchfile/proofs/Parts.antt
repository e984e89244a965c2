-- A part of a list, as a slice gives it: cut to what there is. Assumes nothing.
use Prim.Native.Nat.{ℕ, ◌-◌, ◌≤◌, ◌<◌}
use native.Mathlib.Omega.{arith}
use mathlib.Core.Path.{◌≡◌, sym, ◌∙◌}
use mathlib.Core.List.{List}
use lib.ListN.{length, get_or, take, drop, length-drop, drop_of_length-le, get_or-eq_default}
use lib.Seq.{take_all, drop-length, length-take-le}

pub rest : (s : List ℕ) (n : ℕ) → take (length s - n) (drop n s) ≡ drop n s
rest s n = take_all (length s - n) (drop n s) (simp length-drop (omega arith))

module _ (s : List ℕ) (n : ℕ) where
  pub past : length s < n → take (length s - length s) (drop (length s) s) ≡ drop n s
  past h = rest s (length s) ∙ drop-length s ∙ sym (drop_of_length-le s {i = n} (omega arith))

  pub all : length s < n → s ≡ take n s
  all h = sym (take_all n s (omega arith))

  pub no_word : length s ≤ n → 0 ≡ get_or s n 0
  no_word h = sym (get_or-eq_default s 0 h)

pub ruleset parts = (rest, past, all, no_word, length-take-le)
