-- A page read back: its lines, and the value of an entry by its fields alone. What is promised of it is in Promises. Assumes nothing.
use Rattle.std.specs.Prelude.{ℕ, ◌+◌, ◌*◌, ◌^◌, Bool, true, false, cond, not, ◌&&◌, List, [], ◌∷◌, ◌++◌, eqb, drop}
use Rattle.numerals.specs.Numbers.{value_after}
use Rattle.numerals.specs.Words.{is_blank, take_while, drop_while}
use Rattle.registers.specs.Fields.{Field, fields_of}
use Rattle.registers.specs.declared.Register.{Register}
use Rattle.window.specs.Codes.{codes}
use Rattle.page.specs.Tokens.{Token}

-- what stands on lines from column 31 on, a line feed after each
abbrev pub field_columns : List (List ℕ) → List ℕ
field_columns [] = []
field_columns (l ∷ ls) = drop 30 l ++ codes "\n" ++ field_columns ls

-- ---- the tokens of a text: what stands between blanks, t being what was read of one
abbrev pub ended : Token → List Token
ended [] = []
ended (c ∷ t) = (c ∷ t) ∷ []

abbrev pub split_after : Token → List ℕ → List Token
split_after t [] = ended t
split_after t (c ∷ s) = cond (is_blank c) (ended t ++ split_after [] s) (split_after (t ++ (c ∷ [])) s)

abbrev pub tokens_in : List ℕ → List Token
tokens_in s = split_after [] s

-- ---- what a token says of the value
abbrev pub same : List ℕ → List ℕ → Bool
same [] [] = true
same [] (d ∷ t) = false
same (c ∷ s) [] = false
same (c ∷ s) (d ∷ t) = eqb c d && same s t

abbrev pub number : List ℕ → ℕ
number digits = value_after 10 0 digits

-- `=` (61) parts a name from its number
abbrev pub in_name : ℕ → Bool
in_name c = not (eqb c 61)

-- a name alone stands for 1
abbrev pub number_or_one : List ℕ → ℕ
number_or_one [] = 1
number_or_one (c ∷ digits) = number digits

-- a field's name, alone or with `=` and a number, is that number at the field's place; no field's name is `bit` and the number of a bit
unfoldable pub worth : List Field → Token → ℕ
worth [] t = 2 ^ number (drop 3 t)
worth (f ∷ fs) t = cond (same (take_while in_name t) (codes f.name)) (number_or_one (drop_while in_name t) * 2 ^ f.place.at) (worth fs t)

abbrev pub sum_of : List Field → List Token → ℕ
sum_of fs [] = 0
sum_of fs (t ∷ ts) = worth fs t + sum_of fs ts

-- the value that the tokens of a text give a register
abbrev pub value_in : Register → List ℕ → ℕ
value_in r text = sum_of (fields_of r) (tokens_in text)
