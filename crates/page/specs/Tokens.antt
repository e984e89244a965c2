-- What the service page says of a value (document 02, R-2): its set flags, its other fields and the set bits that belong to no field, each
-- as one token, from the top bit down. Assumes nothing.
use Rattle.std.specs.Prelude.{ℕ, zero, suc, ◌+◌, ◌-◌, cond, List, [], ◌∷◌, ◌++◌, eqb}
use Rattle.fields.specs.Field.{Place, bit, get_of, flag_of}
use Rattle.numerals.specs.Numbers.{decimal_of}
use Rattle.registers.specs.Fields.{Field, fields_of}
use Rattle.registers.specs.declared.Register.{Register}
use Rattle.window.specs.Codes.{codes}

-- A token is a text without spaces.
abbrev pub Token : Type 0
Token = List ℕ

-- a field of one bit by its name, if it is set
unfoldable pub flag_tokens : ℕ → List ℕ → Place → List Token
flag_tokens value name p = cond (flag_of value p) (name ∷ []) []

-- a wider one always: its name, `=` and its number
unfoldable pub number_tokens : ℕ → List ℕ → Place → List Token
number_tokens value name p = (name ++ codes "=" ++ decimal_of (get_of value p)) ∷ []

abbrev pub field_tokens : ℕ → Field → List Token
field_tokens value f = cond (eqb f.place.width 1) (flag_tokens value (codes f.name) f.place) (number_tokens value (codes f.name) f.place)

-- the n bits from bit `low` on, which belong to no field: `bit` and its number for each that is set, the highest first
unfoldable pub bit_tokens : ℕ → ℕ → ℕ → List Token
bit_tokens value low zero = []
bit_tokens value low (suc n) = flag_tokens value (codes "bit" ++ decimal_of (low + n)) (bit (low + n)) ++ bit_tokens value low n

-- the first bit above a field
abbrev pub above : Place → ℕ
above p = p.at + p.width

-- all bits below bit `top`: those above the first field, that field, and what is below it
unfoldable pub tokens_below : ℕ → ℕ → List Field → List Token
tokens_below value top [] = bit_tokens value 0 top
tokens_below value top (f ∷ fs) =
    bit_tokens value (above f.place) (top - above f.place) ++ field_tokens value f ++ tokens_below value f.place.at fs

abbrev pub tokens_of : Register → ℕ → List Token
tokens_of r value = tokens_below value 32 (fields_of r)
