-- The words of a text, a list of ASCII codes: they have blanks between them. Assumes nothing.
use Rattle.std.specs.Prelude.{ℕ, Bool, true, false, cond, ◌&&◌, ◌||◌, List, [], ◌∷◌, eqb, leb}
use Rattle.std.specs.Bool.{beq}

-- a space, or one of the codes from tab (9) to carriage return (13), line feed among them
unfoldable pub is_blank : ℕ → Bool
is_blank b = eqb b 32 || (leb 9 b && leb b 13)

-- whether b is a blank is as k says
abbrev pub blank_is : Bool → ℕ → Bool
blank_is k b = beq (is_blank b) k

-- the bytes of s before the first that p does not take
abbrev pub take_while : (ℕ → Bool) → List ℕ → List ℕ
take_while p [] = []
take_while p (b ∷ s) = cond (p b) (b ∷ take_while p s) []

-- and those from there on
abbrev pub drop_while : (ℕ → Bool) → List ℕ → List ℕ
drop_while p [] = []
drop_while p (b ∷ s) = cond (p b) (drop_while p s) (b ∷ s)

-- the first word, empty where there is none
abbrev pub first_word : List ℕ → List ℕ
first_word s = take_while (blank_is false) (drop_while (blank_is true) s)

-- what follows the first word
abbrev pub after_word : List ℕ → List ℕ
after_word s = drop_while (blank_is false) (drop_while (blank_is true) s)
