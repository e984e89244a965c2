-- The small laws of Boolean tests that the other proofs share. Assumes nothing.
use mathlib.Core.Path.{◌≡◌, refl, sym, ap, ◌∙◌}
use mathlib.Core.Bool.{Bool, true, false, cond, not, ◌&&◌, ◌||◌, beq}
use lib.Dec.{T}

-- X, where the test holds
abbrev pub only : Bool → Type 0 → Type 0
only true X = X
only false X = Unit {0}

pub only_yes : (c : Bool) {X : Type 0} → X → only c X
only_yes true x = x
only_yes false x = tt

pub only_not : (c : Bool) (X : Type 0) → T (not c) → only c X
only_not true X h = absurd h
only_not false X h = tt

pub only_use : (c : Bool) (X : Type 0) → T c → only c X → X
only_use true X h x = x
only_use false X h x = absurd h

pub only_if : (c b : Bool) → T (not c || b) → only c (T b)
only_if true b h = h
only_if false b h = tt

pub if_only : (c b : Bool) → only c (T b) → T (not c || b)
if_only true b h = h
if_only false b h = tt

pub not_and : (a b : Bool) → T (not a) → T (not (a && b))
not_and true b h = absurd h
not_and false b h = tt

pub not_and_1 : (a b : Bool) → T (not b) → T (not (a && b))
not_and_1 true b h = h
not_and_1 false b h = tt

pub and_in : (a b : Bool) → T a → T b → T (a && b)
and_in true b h g = g
and_in false b h g = absurd h

pub or_0 : (a b : Bool) → T a → T (a || b)
or_0 true b h = tt
or_0 false b h = absurd h

pub or_1 : (a b : Bool) → T b → T (a || b)
or_1 true b h = tt
or_1 false b h = h

pub or_else : (a b : Bool) → T (a || b) → T (not a) → T b
or_else true b h n = absurd n
or_else false b h n = h

pub implies : (a b : Bool) → T (b || not a) → T a → T b
implies a true t h = tt
implies true false t h = t
implies false false t h = h

pub nor_0 : (a b : Bool) → T (not (a || b)) → T (not a)
nor_0 true b h = h
nor_0 false b h = tt

pub nor_1 : (a b : Bool) → T (not (a || b)) → T (not b)
nor_1 true b h = absurd h
nor_1 false b h = h

-- by a test: of what it chooses, and of anything
pub by_test {ℓ} : {A : Type ℓ} (P : A → Type 0) (c : Bool) {x y : A} → (T c → P x) → (T (not c) → P y) → P (cond c x y)
by_test P true f g = f tt
by_test P false f g = g tt

pub both {ℓ} : (c : Bool) {X : Type ℓ} → (T c → X) → (T (not c) → X) → X
both true f g = f tt
both false f g = g tt

pub is_true : (c : Bool) → T c → c ≡ true
is_true true h = refl
is_true false h = absurd h

pub is_false : (c : Bool) → T (not c) → c ≡ false
is_false true h = absurd h
is_false false h = refl

pub same : (x y : Bool) → T (beq x y) → x ≡ y
same true true h = refl
same true false h = absurd h
same false true h = absurd h
same false false h = refl

-- what an arm of a match answers: r is what f says of y, and the arm has found that x is y
pub arm : {A B : Type 0} (f : A → B) (x y : A) (r : B) → x ≡ y → r ≡ f y → r ≡ f x
arm f x y r e h = h ∙ ap f (sym e)
