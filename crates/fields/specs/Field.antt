-- A field of a 32-bit register word, and what it means to read and to write one: of a value it takes the low bits.
-- Assumes nothing.
use Rattle.std.specs.Prelude.{ℕ, ◌+◌, ◌-◌, ◌*◌, ◌/◌, ◌%◌, ◌^◌, Bool, true, false, cond, ◌&&◌, ◌||◌, List, [], ◌∷◌, eqb, leb, ltb}

-- A field by its place: the number of its lowest bit, and how many bits it has.
pub record Place : Type 0 where
  pub at : ℕ
  pub width : ℕ

-- It lies within the word: it starts at one of the 32 bits, and has no more bits than there are from there on.
abbrev pub inside : Place → Bool
inside p = ltb p.at 32 && leb p.width (32 - p.at)

-- `width` bits of a number from bit `at` on.
unfoldable pub bits_at : ℕ → ℕ → ℕ → ℕ
bits_at word at width = word / 2 ^ at % 2 ^ width

-- The number with those bits replaced: the bits above them, the low bits of the value, the bits below them.
unfoldable pub with_bits : ℕ → ℕ → ℕ → ℕ → ℕ
with_bits word at width value = (word / 2 ^ at / 2 ^ width * 2 ^ width + value % 2 ^ width) * 2 ^ at + word % 2 ^ at

-- A field is read, and written. A place that does not lie within the word holds 0 and takes nothing.
unfoldable pub get_of : ℕ → Place → ℕ
get_of word p = cond (inside p) (bits_at word p.at p.width) 0

unfoldable pub put_of : ℕ → Place → ℕ → ℕ
put_of word p value = cond (inside p) (with_bits word p.at p.width value) word

-- A flag is a field of one bit.
abbrev pub place : ℕ → ℕ → Place
place at width = record { at = at; width = width }

abbrev pub bit : ℕ → Place
bit at = place at 1

abbrev pub flag_of : ℕ → Place → Bool
flag_of word p = eqb (get_of word p) 1

abbrev pub number : Bool → ℕ
number true = 1
number false = 0

abbrev pub mark_of : ℕ → Place → Bool → ℕ
mark_of word p on = put_of word p (number on)

-- Two places share no bit.
abbrev pub apart : Place → Place → Bool
apart p q = leb (p.at + p.width) q.at || leb (q.at + q.width) p.at

abbrev pub apart_from_all : Place → List Place → Bool
apart_from_all p [] = true
apart_from_all p (q ∷ qs) = apart p q && apart_from_all p qs

-- A register's layout: each field lies within the word, and no two share a bit.
abbrev pub layout : List Place → Bool
layout [] = true
layout (p ∷ ps) = inside p && (apart_from_all p ps && layout ps)
