-- A layout's fields: a write to one leaves every other. Assumes nothing.
use mathlib.Core.Path.{◌≡◌, refl}
use mathlib.Core.Bool.{Bool, true, false, ◌||◌}
use mathlib.Core.List.{List, [], ◌∷◌}
use mathlib.Core.Logic.{◌⊎◌, inl, inr}
use Prim.Native.Nat.{ℕ, zero, suc, ◌+◌, ◌<◌, ◌≤◌}
use native.Mathlib.Nat.{le_of_suc-le-suc, not-suc-le-zero}
use native.Mathlib.Omega.{arith}
use borrow.Author.Tests.{ltb-true, ltb-false}
use lib.Dec.{T, leb, ltb}
use lib.ListN.{length, get_or}
use Rattle.fields.specs.Field.{Place, place, inside, get_of, put_of, apart, apart_from_all, layout}
use Rattle.fields.proofs.Laws.{and_l, and_r, get_apart}

-- the i-th field of a layout
abbrev pub nth : List Place → ℕ → Place
nth ps i = get_or ps i (place 0 0)

from_all : (p : Place) (qs : List Place) → T (apart_from_all p qs) → (j : ℕ) → j < length qs → T (apart p (nth qs j))
from_all p [] t j h = absurd (not-suc-le-zero h)
from_all p (q ∷ qs) t zero h = and_l (apart p q) (apart_from_all p qs) t
from_all p (q ∷ qs) t (suc j) h = from_all p qs (and_r (apart p q) (apart_from_all p qs) t) j (le_of_suc-le-suc h)

ordered : (ps : List Place) → T (layout ps) → (i j : ℕ) → i < j → j < length ps → T (apart (nth ps i) (nth ps j))
ordered [] t i j h l = absurd (not-suc-le-zero l)
ordered (p ∷ ps) t i zero h l = absurd (not-suc-le-zero h)
ordered (p ∷ ps) t zero (suc j) h l =
    from_all p ps (and_l (apart_from_all p ps) (layout ps) (and_r (inside p) _ t)) j (le_of_suc-le-suc l)
ordered (p ∷ ps) t (suc i) (suc j) h l =
    ordered ps (and_r (apart_from_all p ps) (layout ps) (and_r (inside p) _ t)) i j (le_of_suc-le-suc h) (le_of_suc-le-suc l)

swap : (a b : Bool) → T (a || b) → T (b || a)
swap true true t = tt
swap true false t = tt
swap false true t = tt
swap false false t = t

either_way : (i j : ℕ) → (i ≡ j → ⊥) → (b : Bool) → ltb i j ≡ b → (i < j) ⊎ (j < i)
either_way i j ne true e = inl (ltb-true i j e)
either_way i j ne false e = let h : j ≤ i = ltb-false i j e in inr (omega arith)

pub keeps : (ps : List Place) → T (layout ps) → (w v i j : ℕ) → i < length ps → j < length ps → (i ≡ j → ⊥)
    → get_of (put_of w (nth ps i) v) (nth ps j) ≡ get_of w (nth ps j)
keeps ps t w v i j hi hj ne = get_apart w (nth ps i) (nth ps j) v (order (either_way i j ne (ltb i j) refl))
  where
    order : (i < j) ⊎ (j < i) → T (apart (nth ps i) (nth ps j))
    order (inl h) = ordered ps t i j h hj
    order (inr h) = swap (leb ((nth ps j).at + (nth ps j).width) (nth ps i).at) _ (ordered ps t j i h hi)
