-- What the private functions of the timing lean on: bounds of a row and of a prescaler, and rows looked at one after the other. No
-- definition of what is right rests on this file. Assumes nothing.
use Rattle.std.specs.Prelude.{ℕ, zero, suc, ◌*◌, ◌≤◌, ◌≡◌, Bool, true, ◌&&◌, List, leb, ltb, drop, Option, Some, None}
use Rattle.timing.specs.Bands.{divider_of}
use Rattle.timing.specs.declared.Band.{Band}
use Rattle.words.specs.Words.{word_at}
use Rattle.bands.specs.Bands.{sound}
use Rattle.bands.specs.Table.{band_in}

pub record Sound (b : Band) : Type 0 where
  pub d_least : 8 ≤ b.d
  pub d_most : b.d ≤ 256
  pub sdadel_some : 1 ≤ b.sdadel
  pub scldel_some : 1 ≤ b.scldel

abbrev pub SoundIn : Option Band → Type 0
SoundIn (Some b) = Sound b
SoundIn None = Unit {0}

-- what a prescaler p leaves of a cycle of r clocks
pub record Divider (r d p : ℕ) : Type 0 where
  pub is : p ≡ divider_of r d
  pub some : 1 ≤ p
  pub few : 4 * p ≤ r
  pub enough : r ≤ 256 * p

-- the row that bytes begin with, and n rows after one with the upper frequency `last`
abbrev pub row_stands : List ℕ → Bool
row_stands bytes = leb (word_at bytes 5) 1 && sound (band_in bytes)

abbrev pub rows_stand : ℕ → ℕ → List ℕ → Bool
rows_stand last zero bytes = true
rows_stand last (suc n) bytes = row_stands bytes && (ltb last (word_at bytes 0) && rows_stand (word_at bytes 0) n (drop 24 bytes))
