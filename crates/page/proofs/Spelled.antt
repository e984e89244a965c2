-- Two numbers of k hexadecimal digits that are spelled the same are the same. Assumes nothing.
use Prim.Native.Nat.{ℕ, zero, suc, ◌+◌, ◌-◌, ◌/◌, ◌%◌, ◌^◌, ◌<◌}
use native.Mathlib.Nat.{pow-succ'}
use native.Mathlib.Omega.{arith}
use mathlib.Core.Path.{◌≡◌, refl}
use mathlib.Core.Bool.{Bool, true, false, cond}
use mathlib.Core.List.{List, [], ◌∷◌, ◌++◌}
use lib.Dec.{ltb}
use lib.ListN.{length}
use borrow.Author.Tests.{ltb-true, ltb-false}
use Rattle.numerals.specs.Numbers.{hex_digit_of, spelled_of}
use Rattle.numerals.proofs.Spelling.{length_spelled}

-- texts of the same length at the start of equal texts are equal, and so is what follows them
pub same_parts : (a b c d : List ℕ) → length a ≡ length b → a ++ c ≡ b ++ d → (a ≡ b) × (c ≡ d)
same_parts [] [] c d l e = (refl, e)
same_parts [] (y ∷ b) c d l e = absurd (omega arith)
same_parts (x ∷ a) [] c d l e = absurd (omega arith)
same_parts (x ∷ a) (y ∷ b) c d l e =
    let f : x ≡ y = cc in
    let g : a ++ c ≡ b ++ d = cc in
    let z = same_parts a b c d (omega arith) g in
    (rw (f, z.0), z.1)

same_digit : (d e : ℕ) → d < 16 → e < 16 → hex_digit_of d ≡ hex_digit_of e → d ≡ e
unfolding hex_digit_of
same_digit d e h l = by (ltb d 10) (ltb e 10) refl refl
  where
    by : (b c : Bool) → ltb d 10 ≡ b → ltb e 10 ≡ c → cond b (48 + d) (65 + (d - 10)) ≡ cond c (48 + e) (65 + (e - 10)) → d ≡ e
    by true true p q s = omega arith
    by true false p q s = omega (arith, ltb-true, ltb-false)
    by false true p q s = omega (arith, ltb-true, ltb-false)
    by false false p q s = omega (arith, ltb-false)

pub same_spelled : (k v w : ℕ) → v < 16 ^ k → w < 16 ^ k → spelled_of 16 k v ≡ spelled_of 16 k w → v ≡ w
unfolding spelled_of
same_spelled zero v w h l e = omega arith
same_spelled (suc k) v w h l e =
    let z = same_parts (spelled_of 16 k (v / 16)) (spelled_of 16 k (w / 16)) (hex_digit_of (v % 16) ∷ []) (hex_digit_of (w % 16) ∷ [])
    (omega (arith, length_spelled 16 k (v / 16), length_spelled 16 k (w / 16))) e in
    let last : hex_digit_of (v % 16) ∷ [] ≡ hex_digit_of (w % 16) ∷ [] = z.1 in
    let digit : hex_digit_of (v % 16) ≡ hex_digit_of (w % 16) = cc in
    let p : v / 16 < 16 ^ k = omega (arith, pow-succ' 16 k) in
    let q : w / 16 < 16 ^ k = omega (arith, pow-succ' 16 k) in
    omega (arith, same_spelled k (v / 16) (w / 16) p q z.0, same_digit (v % 16) (w % 16) (omega arith) (omega arith) digit)
