-- A number written in decimal is read back, and has no blank in it. Assumes nothing.
use Prim.Native.Nat.{ℕ, zero, suc, ◌+◌, ◌*◌, ◌/◌, ◌%◌, ◌^◌, ◌<◌}
use native.Mathlib.Nat.{pow-suc}
use native.Mathlib.Omega.{arith}
use mathlib.Core.Path.{◌≡◌, refl, ◌∙◌}
use mathlib.Core.Bool.{Bool, true, false, cond, not, and-false}
use mathlib.Core.List.{List, [], ◌∷◌, ◌++◌}
use lib.Dec.{T, eqb, leb}
use mir.Facts.{and_yes, yes_and}
use borrow.Author.Tests.{lt-ltb, le-ltb, lt-leb, ne_eqb, eqb-true}
use Rattle.numerals.specs.Numbers.{digit_of, value_after, hex_digit_of, spelled_of, significant_of, decimal_of}
use Rattle.numerals.specs.Words.{is_blank}
use Rattle.page.specs.Back.{number}
use Rattle.page.proofs.Split.{unbroken}

-- ---- a digit
digit_back : (d : ℕ) → d < 10 → digit_of (hex_digit_of d) ≡ d
unfolding digit_of hex_digit_of
digit_back d h = rw (lt-ltb d 10 h, le-ltb (48 + d) 48 (omega arith), lt-ltb (48 + d) 58 (omega arith)) (omega arith)

digit_solid : (d : ℕ) → d < 10 → is_blank (hex_digit_of d) ≡ false
unfolding hex_digit_of is_blank
digit_solid d h =
    rw (lt-ltb d 10 h, ne_eqb (48 + d) 32 (λ e. omega arith), lt-leb (48 + d) 13 (omega arith)) (and-false (leb 9 (48 + d)))

-- ---- the number of the digits
value_append : (base v : ℕ) (s t : List ℕ) → value_after base v (s ++ t) ≡ value_after base (value_after base v s) t
value_append base v [] t = refl
value_append base v (b ∷ s) t = value_append base (v * base + digit_of b) s t

spelled_back : (k n : ℕ) → n < 10 ^ k → number (spelled_of 10 k n) ≡ n
unfolding spelled_of
spelled_back zero n h = omega arith
spelled_back (suc k) n h =
    let fewer : n / 10 < 10 ^ k = omega (arith, pow-suc 10 k) in
    value_append 10 0 (spelled_of 10 k (n / 10)) (hex_digit_of (n % 10) ∷ [])
    ∙ rw (spelled_back k (n / 10) fewer, digit_back (n % 10) (omega arith)) (omega arith)

-- zeros in front count nothing
without_zeros : (s : List ℕ) → number (significant_of s) ≡ number s
unfolding significant_of digit_of
without_zeros [] = refl
without_zeros (d ∷ []) = refl
without_zeros (d ∷ e ∷ s) = by (eqb d 48) refl (without_zeros (e ∷ s))
  where
    by : (q : Bool) → eqb d 48 ≡ q → number (significant_of (e ∷ s)) ≡ number (e ∷ s) → number (cond q (significant_of (e ∷ s)) (d ∷ e ∷ s)) ≡ number (d ∷ e ∷ s)
    by true h l = rw (eqb-true d 48 h) l
    by false h l = refl

pub decimal_back : (n : ℕ) → n < 10 ^ 20 → number (decimal_of n) ≡ n
decimal_back n h = without_zeros (spelled_of 10 20 n) ∙ spelled_back 20 n h

-- ---- no blank
pub unbroken_append : (s t : List ℕ) → T (unbroken s) → T (unbroken t) → T (unbroken (s ++ t))
unbroken_append [] t h l = l
unbroken_append (c ∷ s) t h l =
    let both = and_yes (not (is_blank c)) (unbroken s) h in
    yes_and (not (is_blank c)) (unbroken (s ++ t)) both.0 (unbroken_append s t both.1 l)

spelled_solid : (k n : ℕ) → T (unbroken (spelled_of 10 k n))
unfolding spelled_of
spelled_solid zero n = tt
spelled_solid (suc k) n =
    unbroken_append (spelled_of 10 k (n / 10)) (hex_digit_of (n % 10) ∷ []) (spelled_solid k (n / 10)) (rw (digit_solid (n % 10) (omega arith)) tt)

significant_solid : (s : List ℕ) → T (unbroken s) → T (unbroken (significant_of s))
unfolding significant_of
significant_solid [] h = tt
significant_solid (d ∷ []) h = h
significant_solid (d ∷ e ∷ s) h =
    elim (eqb d 48) as (λ q. T (unbroken (cond q (significant_of (e ∷ s)) (d ∷ e ∷ s))))
    [ true ↦ significant_solid (e ∷ s) (and_yes (not (is_blank d)) (unbroken (e ∷ s)) h).1 | false ↦ h ]

pub decimal_solid : (n : ℕ) → T (unbroken (decimal_of n))
decimal_solid n = significant_solid (spelled_of 10 20 n) (spelled_solid 20 n)
