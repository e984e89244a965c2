-- A table of speed bands as bytes: 24 to a row, which are six little-endian words, its upper frequency, least clock, d, divisor of SDADEL,
-- divisor of SCLDEL, and shape, 0 for equal and 1 for double. Assumes nothing.
use Rattle.std.specs.Prelude.{ℕ, zero, suc, ◌/◌, ◌%◌, Bool, true, cond, ◌&&◌, List, [], ◌∷◌, ◌++◌, eqb, leb, length, drop}
use Rattle.words.specs.Words.{word_at, bytes_of}
use Rattle.timing.specs.Bands.{row}
use Rattle.timing.specs.declared.Band.{Band}
use Rattle.timing.specs.declared.Shape.{Shape}
use Rattle.timing.specs.declared.Shape.TheVariants.{Equal, Double}

abbrev pub shape_of : ℕ → Shape
shape_of n = cond (eqb n 0) Equal Double

-- the row that bytes begin with, and the first n rows
abbrev pub band_in : List ℕ → Band
band_in bytes = row (word_at bytes 0) (word_at bytes 1) (word_at bytes 2) (word_at bytes 3) (word_at bytes 4) (shape_of (word_at bytes 5))

abbrev pub bands_from : ℕ → List ℕ → List Band
bands_from zero bytes = []
bands_from (suc n) bytes = band_in bytes ∷ bands_from n (drop 24 bytes)

-- each of n rows names one of the two shapes
abbrev pub named : ℕ → List ℕ → Bool
named zero bytes = true
named (suc n) bytes = leb (word_at bytes 5) 1 && named n (drop 24 bytes)

-- Bytes that are not whole rows, or that name another shape, hold no row, and are refused as a table without one.
unfoldable pub bands_in : List ℕ → List Band
bands_in bytes =
    let n = length bytes / 24 in
    cond (eqb (length bytes % 24) 0 && named n bytes) (bands_from n bytes) []

-- The bytes of rows: what a maker writes so that `bands_in` gives the rows.
abbrev pub shape_number : Shape → ℕ
shape_number Equal = 0
shape_number Double = 1

abbrev pub row_words : Band → List ℕ
row_words b = b.upper ∷ b.least ∷ b.d ∷ b.sdadel ∷ b.scldel ∷ shape_number b.shape ∷ []

abbrev pub table_of : List Band → List ℕ
table_of [] = []
table_of (b ∷ bs) = bytes_of (row_words b) ++ table_of bs
