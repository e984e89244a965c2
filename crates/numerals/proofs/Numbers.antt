-- How the digits read so far and those that are left decide a number. Assumes nothing.
use Rattle.std.specs.Prelude.{Option, Some, None}
use Prim.Native.Nat.{ℕ, ◌+◌, ◌*◌, ◌^◌, ◌≤◌, ◌<◌}
use mathlib.Core.Path.{◌≡◌, refl, sym, ◌∙◌}
use mathlib.Core.Bool.{cond, ◌&&◌, and-false}
use mathlib.Core.List.{List, [], ◌∷◌}
use native.Mathlib.Nat.{mul-le-mul_left}
use native.Mathlib.Numerals.{add-one}
use native.Mathlib.Omega.{arith}
use lib.Dec.{leb}
use lib.ListN.{length, get_or, drop, drop_of_length-le}
use lib.Seq.{drop-cons}
use borrow.Author.Tests.{lt-ltb, le-ltb, lt-leb, le-leb}
use Rattle.numerals.specs.Numbers.{digit_of, all_digits, value_after, number_of}

-- the number of digits of the value v and then the digits s
unfoldable pub number_after : ℕ → ℕ → List ℕ → Option ℕ
number_after base v s =
    let w = value_after base v s in
    cond (all_digits base s && leb w 4294967295) (Some w) None

grows : (base v : ℕ) (s : List ℕ) → 1 ≤ base → v ≤ value_after base v s
grows base v [] h = omega arith
grows base v (b ∷ s) h = omega (arith, grows base (v * base + digit_of b) s h, mul-le-mul_left v h)

too_large : (base v : ℕ) (s : List ℕ) → 1 ≤ base → 4294967295 < v → number_after base v s ≡ None
unfolding number_after
too_large base v s h l = let g : v ≤ value_after base v s = grows base v s h in simp (lt-leb (value_after base v s) 4294967295 (omega arith), and-false)

pub empty : (base : ℕ) (s : List ℕ) → length s ≡ 0 → None ≡ number_of base s
unfolding number_of
empty base [] h = refl
empty base (b ∷ s) h = absurd (omega arith)

pub begins : (base : ℕ) (s : List ℕ) → (length s ≡ 0 → ⊥) → number_of base s ≡ number_after base 0 s
unfolding number_of number_after
begins base s h = simp (lt-ltb 0 (length s) (omega arith))

-- the digits before i have the value v: what the end and the next digit d give
module _ (base : ℕ) (s : List ℕ) (v i : ℕ) (read : number_of base s ≡ number_after base v (drop i s)) where
  pub ends : length s ≤ i → v < 2 ^ 32 → Some v ≡ number_of base s
  unfolding number_after
  ends h l = rw (read, drop_of_length-le s h) (simp (le-leb v 4294967295 (omega arith)))

  module _ (some : i < length s) where
    pub stops : base ≤ digit_of (get_or s i 0) → None ≡ number_of base s
    unfolding number_after
    stops h = rw (read, drop-cons s i 0) (simp (le-ltb (digit_of (get_or s i 0)) base (omega arith)))

    module _ (d : ℕ) (low : d < base) (digit : d ≡ digit_of (get_or s i 0)) where
      pub next : number_of base s ≡ number_after base (v * base + d) (drop (i + 1) s)
      unfolding number_after
      next = rw (read, add-one, drop-cons s i 0, digit) (simp (lt-ltb (digit_of (get_or s i 0)) base (omega arith)))

      pub over : 1 ≤ base → 4294967295 < v * base + d → None ≡ number_of base s
      over p l = sym (next ∙ too_large base (v * base + d) (drop (i + 1) s) p l)
