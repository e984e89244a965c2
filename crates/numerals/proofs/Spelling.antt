-- How the digits that are written and those that are left make up a number's text. Assumes nothing.
use Prim.Native.Nat.{ℕ, min, zero, suc, ◌+◌, ◌-◌, ◌*◌, ◌/◌, ◌%◌, ◌^◌, ◌≤◌, ◌<◌}
use mathlib.Core.Path.{◌≡◌, refl, sym, ap, ◌∙◌}
use mathlib.Core.Bool.{Bool, true, false, cond}
use mathlib.Core.List.{List, [], ◌∷◌, ◌++◌}
use native.Mathlib.Nat.{mod-lt, mul_comm, pow-succ', lt_of_lt_of_le, pow-le-pow_right}
use native.Mathlib.Numerals.{unary_clauses}
use native.Mathlib.Omega.{arith}
use lib.Arith.{mod-mul}
use lib.Dec.{eqb, lit<}
use Rattle.std.specs.List.{prefix_len}
use lib.ListN.{length, drop, set, length-append}
use lib.Seq.{drop-cons, append_snoc, get_or-set_same, drop-set-lt, lt-length-set}
use Rattle.numerals.specs.Numbers.{hex_digit_of, spelled_of, significant_of, decimal_of}

pub below : (r base : ℕ) → 1 ≤ base → base ≤ 16 → r % base < 16
below r base h l = omega (arith, mod-lt r h)

-- digit i - 1 is written
pub writes : (base i rest g : ℕ) (text all : List ℕ) → spelled_of base i rest ++ drop i text ≡ all → 0 < i → i ≤ length text → g ≡ hex_digit_of (rest % base) → spelled_of base (i - 1) (rest / base) ++ drop (i - 1) (set text (i - 1) g) ≡ all
unfolding spelled_of
writes base zero rest g text all e h l q = absurd (omega arith)
writes base (suc k) rest g text all e h l q =
    let some : k < length text = omega arith in
    simp unary_clauses
    (rw (drop-cons (set text k g) k 0 (lt-length-set text k g some), get_or-set_same text k g 0, drop-set-lt (suc k) text k g (omega arith), q, ← append_snoc) e)

pub ends : (base i rest : ℕ) (text all : List ℕ) → spelled_of base i rest ++ drop i text ≡ all → i ≤ 0 → text ≡ all
unfolding spelled_of
ends base zero rest text all e h = e
ends base (suc k) rest text all e h = absurd (omega arith)

-- ---- the zeros in front
pub without_zeros : (s : List ℕ) → drop (min (prefix_len (λ d. eqb d 48) s) (length s - 1)) s ≡ significant_of s
unfolding significant_of
without_zeros [] = refl
without_zeros (d ∷ []) = (let n : min (prefix_len (λ d. eqb d 48) (d ∷ [])) 0 ≡ 0 = omega arith in rw n)
without_zeros (d ∷ e ∷ s) = by (eqb d 48) (without_zeros (e ∷ s))
  where
    by : (q : Bool) → drop (min (prefix_len (λ d. eqb d 48) (e ∷ s)) (length (e ∷ s) - 1)) (e ∷ s) ≡ significant_of (e ∷ s) →
        drop (min (cond q (1 + prefix_len (λ d. eqb d 48) (e ∷ s)) 0) (length (d ∷ e ∷ s) - 1)) (d ∷ e ∷ s) ≡ cond q (significant_of (e ∷ s)) (d ∷ e ∷ s)
    by true h =
        let p : ℕ = prefix_len (λ d. eqb d 48) (e ∷ s) in
        let n : min (1 + p) (length (d ∷ e ∷ s) - 1) ≡ suc (min p (length (e ∷ s) - 1)) = omega arith in
        rw n h
    by false h = (let n : min 0 (length (d ∷ e ∷ s) - 1) ≡ 0 = omega arith in rw n)

-- ---- a number that k digits hold has a zero as digit k + 1, so ten digits tell as much as twenty
pub length_spelled : (base k n : ℕ) → length (spelled_of base k n) ≡ k
unfolding spelled_of
length_spelled base zero n = refl
length_spelled base (suc k) n = simp length-append (omega (arith, length_spelled base k (n / base)))

zero_first : (k n : ℕ) → n < 10 ^ k → spelled_of 10 (suc k) n ≡ 48 ∷ spelled_of 10 k n
unfolding spelled_of hex_digit_of
zero_first zero n h = (let e : n ≡ 0 = omega arith in rw e)
zero_first (suc k) n h =
    let l : n / 10 < 10 ^ k = omega (arith, pow-succ' 10 k) in
    ap (λ (s : List ℕ). s ++ (hex_digit_of (n % 10) ∷ [])) (zero_first k (n / 10) l)

zero_gone : (s : List ℕ) → 0 < length s → significant_of (48 ∷ s) ≡ significant_of s
unfolding significant_of
zero_gone [] h = absurd (omega arith)
zero_gone (d ∷ s) h = refl

one_less : (k n : ℕ) → 0 < k → n < 10 ^ k → significant_of (spelled_of 10 (suc k) n) ≡ significant_of (spelled_of 10 k n)
one_less k n z h = rw (zero_first k n h) (zero_gone (spelled_of 10 k n) (rw (length_spelled 10 k n) z))

as_long : (m k n : ℕ) → 0 < k → n < 10 ^ k → significant_of (spelled_of 10 (m + k) n) ≡ significant_of (spelled_of 10 k n)
as_long zero k n z h = (let e : zero + k ≡ k = omega arith in rw e)
as_long (suc m) k n z h =
    let e : suc m + k ≡ suc (m + k) = omega arith in
    rw e (one_less (m + k) n (omega arith) (lt_of_lt_of_le h (pow-le-pow_right (lit< tt) (let l : k ≤ m + k = omega arith in l))) ∙ as_long m k n z h)

pub ten_tell : (n : ℕ) (t : List ℕ) → n < 4294967296 → t ≡ spelled_of 10 10 n → significant_of t ≡ decimal_of n
ten_tell n t h e = rw e (sym (as_long 10 10 n (lit< tt) (omega arith)))

-- ---- the last k digits of a number are those of what it leaves by 10 ^ k
pub same_digits : (k m n : ℕ) → m % 10 ^ k ≡ n % 10 ^ k → spelled_of 10 k m ≡ spelled_of 10 k n
unfolding spelled_of
same_digits zero m n e = refl
same_digits (suc k) m n e =
    let p : 0 < 10 ^ k = lt_of_lt_of_le (lit< tt) (pow-le-pow_right (lit< tt) (let l : 0 ≤ k = omega arith in l)) in
    let q : 10 ^ suc k ≡ 10 ^ k * 10 = pow-succ' 10 k ∙ mul_comm 10 (10 ^ k) in
    let f : m / 10 % 10 ^ k * 10 + m % 10 ≡ n / 10 % 10 ^ k * 10 + n % 10 = sym (mod-mul m p (lit< tt)) ∙ (rw q at e) ∙ mod-mul n p (lit< tt) in
    let g : m / 10 % 10 ^ k ≡ n / 10 % 10 ^ k = omega arith in
    let h : m % 10 ≡ n % 10 = omega arith in
    rw (h, same_digits k (m / 10) (n / 10) g)
