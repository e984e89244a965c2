-- The texts that a page is made of: how long they are, and that they are printable. Assumes nothing.
use Prim.Native.Nat.{ℕ, zero, suc, ◌+◌, ◌-◌, ◌/◌, ◌%◌, ◌^◌, ◌≤◌, ◌<◌}
use native.Mathlib.Nat.{pow-succ'}
use native.Mathlib.Numerals.{add-one}
use native.Mathlib.Omega.{arith}
use mathlib.Core.Path.{◌≡◌, refl}
use mathlib.Core.Bool.{Bool, true, false, cond, ◌&&◌}
use mathlib.Core.List.{List, [], ◌∷◌, ◌++◌}
use lib.Dec.{T, eqb, leb, ltb, leb→le, ltb→lt, lit≤, lit<}
use lib.ListN.{length, replicate, length-append, length-replicate, replicate-append-replicate}
use Rattle.fields.proofs.Laws.{and_l, and_r}
use Rattle.numerals.specs.Numbers.{hex_digit_of, spelled_of, significant_of, decimal_of}
use Rattle.numerals.proofs.Spelling.{below}
use Rattle.page.specs.Page.{spaces, filled}
use Rattle.page.specs.Promises.{Printable}

-- ---- how long they are
pub length_filled : (n : ℕ) (t : List ℕ) → length t ≤ n → length (filled n t) ≡ n
length_filled n t h = simp (length-append, length-replicate) (omega arith)

-- ---- decimal digits: a number below 10 ^ (k + 1) has at most k + 1 of them
-- with one digit more a text is at most one longer
one_more_holds : (s : List ℕ) (d : ℕ) → length (significant_of (s ++ (d ∷ []))) ≤ 1 + length (significant_of s)
unfolding significant_of
one_more_holds [] d = omega arith
one_more_holds (e ∷ []) d = by (eqb e 48)
  where
    by : (b : Bool) → length (cond b (d ∷ []) (e ∷ d ∷ [])) ≤ 2
    by true = omega arith
    by false = omega arith
one_more_holds (e ∷ f ∷ s) d = by (eqb e 48) (one_more_holds (f ∷ s) d)
  where
    by : (b : Bool) → length (significant_of (f ∷ (s ++ (d ∷ [])))) ≤ 1 + length (significant_of (f ∷ s)) →
        length (cond b (significant_of (f ∷ (s ++ (d ∷ [])))) (e ∷ f ∷ (s ++ (d ∷ [])))) ≤ 1 + length (cond b (significant_of (f ∷ s)) (e ∷ f ∷ s))
    by true h = h
    by false h = simp length-append (omega arith)

-- and of zeros in front none stays
all_zeros : (m : ℕ) → spelled_of 10 m 0 ≡ replicate m 48
unfolding spelled_of hex_digit_of
all_zeros zero = refl
all_zeros (suc m) = rw (all_zeros m, replicate-append-replicate {A = ℕ} m 1 48, add-one)

last_stays : (m d : ℕ) → significant_of (replicate m 48 ++ (d ∷ [])) ≡ d ∷ []
unfolding significant_of
last_stays zero d = refl
last_stays (suc zero) d = refl
last_stays (suc (suc m)) d = last_stays (suc m) d

pub few_digits : (m k n : ℕ) → n < 10 ^ suc k → length (significant_of (spelled_of 10 m n)) ≤ suc k
unfolding spelled_of significant_of
few_digits zero k n h = omega arith
few_digits (suc m) zero n h =
    let e : n / 10 ≡ 0 = omega arith in
    rw (e, all_zeros m, last_stays) (omega arith)
few_digits (suc m) (suc k) n h =
    let g : n / 10 < 10 ^ suc k = omega (arith, pow-succ' 10 (suc k)) in
    omega (arith, one_more_holds (spelled_of 10 m (n / 10)) (hex_digit_of (n % 10)), few_digits m k (n / 10) g)

-- ---- that they are printable
abbrev pub printable : List ℕ → Bool
printable [] = true
printable (c ∷ s) = leb 32 c && (ltb c 127 && printable s)

pub printed : (s : List ℕ) → T (printable s) → Printable s
printed [] t = tt
printed (c ∷ s) t =
    let u = and_r (leb 32 c) _ t in
    (leb→le 32 c (and_l (leb 32 c) _ t), ltb→lt c 127 (and_l (ltb c 127) _ u), printed s (and_r (ltb c 127) _ u))

pub print_append : (s t : List ℕ) → Printable s → Printable t → Printable (s ++ t)
print_append [] t h l = l
print_append (c ∷ s) t h l = (h.0, h.1, print_append s t h.2 l)

pub print_spaces : (n : ℕ) → Printable (spaces n)
print_spaces zero = tt
print_spaces (suc n) = (lit≤ tt, lit< tt, print_spaces n)

pub print_filled : (n : ℕ) (t : List ℕ) → Printable t → Printable (filled n t)
print_filled n t h = print_append t (spaces (n - length t)) h (print_spaces (n - length t))

print_digit : (d : ℕ) → d < 16 → Printable (hex_digit_of d ∷ [])
unfolding hex_digit_of
print_digit d h = by (ltb d 10)
  where
    by : (b : Bool) → Printable (cond b (48 + d) (65 + (d - 10)) ∷ [])
    by true = (omega arith, omega arith, tt)
    by false = (omega arith, omega arith, tt)

pub print_spelled : (base k n : ℕ) → 1 ≤ base → base ≤ 16 → Printable (spelled_of base k n)
unfolding spelled_of
print_spelled base zero n h l = tt
print_spelled base (suc k) n h l =
    print_append (spelled_of base k (n / base)) (hex_digit_of (n % base) ∷ []) (print_spelled base k (n / base) h l) (print_digit (n % base) (below n base h l))

print_significant : (s : List ℕ) → Printable s → Printable (significant_of s)
unfolding significant_of
print_significant [] h = h
print_significant (d ∷ []) h = h
print_significant (d ∷ e ∷ s) h = by (eqb d 48) (print_significant (e ∷ s) h.2)
  where
    by : (b : Bool) → Printable (significant_of (e ∷ s)) → Printable (cond b (significant_of (e ∷ s)) (d ∷ e ∷ s))
    by true l = l
    by false l = h

pub print_decimal : (n : ℕ) → Printable (decimal_of n)
print_decimal n = print_significant (spelled_of 10 20 n) (print_spelled 10 20 n (lit≤ tt) (lit≤ tt))
