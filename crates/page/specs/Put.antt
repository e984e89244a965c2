-- Serves proofs: how the tokens of an entry are put where a page's text stands, one after the other. Assumes nothing.
use Rattle.std.specs.Prelude.{ℕ, zero, suc, ◌+◌, ◌-◌, Bool, true, false, cond, ◌&&◌, List, [], ◌∷◌, ◌++◌, map, eqb, leb, ltb, length, Option, Some, None}
use Rattle.fields.specs.Field.{place, bit, get_of}
use Rattle.numerals.specs.Numbers.{parsed_of, decimal_of}
use Rattle.numerals.specs.Words.{first_word, after_word}
use Rattle.registers.specs.Fields.{Field, register_name, fields_of}
use Rattle.registers.specs.declared.Register.{Register}
use Rattle.window.specs.Codes.{codes}
use Rattle.window.specs.Window.{Laid, laid, emit_of}
use Rattle.page.specs.Page.{spaces, filled}
use Rattle.page.specs.Tokens.{Token, flag_tokens, bit_tokens}
use Rattle.page.specs.declared.line.Line.{Line}

-- where the text stands, how many columns of its line are used, and the bits that are still to come: those below bit `top`
pub record Put : Type 0 where
  pub text : Laid
  pub column : ℕ
  pub top : ℕ

abbrev pub as_put : Line → List ℕ → Put
as_put l out = record { text = laid l.place out; column = l.column; top = l.top }

-- the line is ended
abbrev pub ending : ℕ → List ℕ
ending column = spaces (80 - column) ++ codes "\n"

-- room for a token of n characters, on the line or on the next
unfoldable pub room_put : ℕ → Put → Put
room_put n s =
    cond (leb (s.column + (1 + n)) 80) s
    (record { text = emit_of (ending s.column ++ spaces 29) s.text; column = 29; top = s.top })

unfoldable pub add_put : Token → Put → Put
add_put t s = record { text = emit_of (spaces 1 ++ t) s.text; column = s.column + (1 + length t); top = s.top }

abbrev pub token_put : Token → Put → Put
token_put t s = add_put t (room_put (length t) s)

unfoldable pub tokens_put : List Token → Put → Put
tokens_put [] s = s
tokens_put (t ∷ ts) s = tokens_put ts (token_put t s)

abbrev pub below : ℕ → Put → Put
below top s = record { text = s.text; column = s.column; top = top }

-- the bits of no field down to bit `low`
unfoldable pub bits_put : ℕ → ℕ → Put → Put
bits_put value low s = below low (tokens_put (bit_tokens value low (s.top - low)) s)

unfoldable pub flag_put : ℕ → List ℕ → ℕ → Put → Put
flag_put value name at s = below at (tokens_put (flag_tokens value name (bit at)) (bits_put value (at + 1) s))

-- a number, whose label is its name and `=`
unfoldable pub number_put : ℕ → List ℕ → ℕ → ℕ → Put → Put
number_put value label at width s = below at (token_put (label ++ decimal_of (get_of value (place at width))) (bits_put value (at + width) s))

-- ---- what was done and the register, with the spaces after them
abbrev pub done_of : Bool → List ℕ
done_of true = codes "write"
done_of false = codes "read"

abbrev pub name_of : Register → List ℕ
name_of r = filled 7 (codes (register_name r)) ++ spaces 1

-- ---- A register's fields told by a text: for each its lowest bit, its width and its label, the words of the text in turn. The label of a
-- number ends in `=`.
pub record Labelled : Type 0 where
  pub at : ℕ
  pub width : ℕ
  pub label : List ℕ

abbrev pub labelled : ℕ → ℕ → List ℕ → Labelled
labelled at width label = record { at = at; width = width; label = label }

abbrev pub or_zero : Option ℕ → ℕ
or_zero (Some n) = n
or_zero None = 0

abbrev pub number_in : List ℕ → ℕ
number_in s = or_zero (parsed_of (first_word s))

unfoldable pub fields_in : ℕ → List ℕ → List Labelled
fields_in zero s = []
fields_in (suc n) s =
    let t : List ℕ = after_word s in
    let u : List ℕ = after_word t in
    labelled (number_in s) (number_in t) (first_word u) ∷ fields_in n (after_word u)

-- the fields of a register, so told
abbrev pub label_of : Field → Labelled
label_of f = labelled f.place.at f.place.width (cond (eqb f.place.width 1) (codes f.name) (codes f.name ++ codes "="))

abbrev pub labels_of : Register → List Labelled
labels_of r = map label_of (fields_of r)

-- one that does not lie within a word, or whose label is long, is left out
abbrev pub fitting : Labelled → Bool
fitting f = ltb f.at 32 && (ltb f.width 32 && leb (length f.label) 20)

unfoldable pub field_put : ℕ → Labelled → Put → Put
field_put value f s = cond (fitting f) (cond (eqb f.width 1) (flag_put value f.label f.at s) (number_put value f.label f.at f.width s)) s

unfoldable pub fields_put : ℕ → List Labelled → Put → Put
fields_put value [] s = bits_put value 0 s
fields_put value (f ∷ fs) s = fields_put value fs (field_put value f s)

-- ---- how long a text is, if there is room for it
abbrev pub size_in : ℕ → List ℕ → Option ℕ
size_in room text = cond (leb (length text) room) (Some (length text)) None
