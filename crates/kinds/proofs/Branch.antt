-- What a definition's tests are where the code took a branch: `search branches` closes such a return. Assumes nothing.
use mathlib.Core.Path.{◌≡◌, sym, ap, ◌∙◌}
use mathlib.Core.Bool.{Bool, true, false, cond, ◌&&◌, ◌||◌, not}
use lib.Dec.{T}

-- what a test is, from what its function ensures and what it gave
pub told : {r t b : Bool} → r ≡ t → r ≡ b → t ≡ b
told e h = sym e ∙ h

-- what a function gave was told to be `is`, and is looked at as that
pub via : {A B : Type 0} (f : A → B) (r : B) (gave given is : A) → given ≡ gave → given ≡ is → r ≡ f is → r ≡ f gave
via f r gave given is e g m = m ∙ ap f (sym g ∙ e)

-- and where the code turns it round
pub not_told : {r t b : Bool} → r ≡ t → not r ≡ b → not t ≡ b
not_told e h = rw (← e) h

pub un_not : {r b : Bool} → not r ≡ b → r ≡ not b
un_not {r} h = go r h
  where
    go : {b : Bool} (r : Bool) → not r ≡ b → r ≡ not b
    go true h = ap not h
    go false h = ap not h

pub holds : {t : Bool} → t ≡ true → T t
holds h = rw h tt

pub fails : {t : Bool} → t ≡ false → T (not t)
fails h = rw h tt

pub turned : {r t : Bool} → r ≡ t → not r ≡ not t
turned e = rw e

pub yes : {A : Type 0} {r x : A} (t : Bool) (y : A) → t ≡ true → r ≡ x → r ≡ cond t x y
yes t y h e = rw h e

pub no : {A : Type 0} {r y : A} (t : Bool) (x : A) → t ≡ false → r ≡ y → r ≡ cond t x y
no t x h e = rw h e

pub or_yes : {r : Bool} (t u : Bool) → t ≡ true → r ≡ true → r ≡ (t || u)
or_yes t u h e = rw h e

pub or_no : {r u : Bool} (t : Bool) → t ≡ false → r ≡ u → r ≡ (t || u)
or_no t h e = rw h e

pub and_yes : {r u : Bool} (t : Bool) → t ≡ true → r ≡ u → r ≡ (t && u)
and_yes t h e = rw h e

pub and_no : {r : Bool} (t u : Bool) → t ≡ false → r ≡ false → r ≡ (t && u)
and_no t u h e = rw h e

pub ruleset branches = (told, not_told, turned, yes, no, or_yes, or_no, and_yes, and_no)
