-- What is promised of timings by speed bands. Assumes nothing.
use Rattle.std.specs.Prelude.{ℕ, ◌/◌, ◌^◌, ◌≤◌, ◌<◌, ◌≢◌, ◌≡◌, true, false, List, [], ◌∷◌, length, get_or, Ok, Err}
use Rattle.words.specs.Words.{Below}
use Rattle.timing.specs.Bands.{above, divider_of, timing_of}
use Rattle.timing.specs.Timingr.{raw_of, pack_of}
use Rattle.timing.specs.declared.Band.{Band}
use Rattle.timing.specs.declared.I2cTiming.{I2cTiming}
use Rattle.timing.specs.declared.TimingRefusal.TheVariants.{BadBands, NoBand}
use Rattle.bands.specs.Bands.{accepted, held_in, timing_by, five_bands}
use Rattle.bands.specs.Table.{row_words, table_of, bands_in}

-- row number i, where there is one
abbrev pub row_at : List Band → ℕ → Band
row_at bs i = get_or bs i above

-- the rule of document 02, for any row and any two rows
pub record Rule (bs : List Band) : Type 0 where
  pub some : 1 ≤ length bs
  pub few : length bs ≤ 16
  pub d_least : (i : ℕ) → i < length bs → 8 ≤ (row_at bs i).d
  pub d_most : (i : ℕ) → i < length bs → (row_at bs i).d ≤ 256
  pub sdadel : (i : ℕ) → i < length bs → (row_at bs i).sdadel ≢ 0
  pub scldel : (i : ℕ) → i < length bs → (row_at bs i).scldel ≢ 0
  pub rises : (i j : ℕ) → i < j → j < length bs → (row_at bs i).upper < (row_at bs j).upper

-- numbers of 32 bits
abbrev pub Words : List Band → Type 0
Words [] = Unit {0}
Words (b ∷ bs) = Below (2 ^ 32) (row_words b) × Words bs

pub record BandPromises : Type 0 where
  -- a table is accepted exactly if the rule holds
  pub accepts : (bs : List Band) → Rule bs → accepted bs ≡ true
  pub only_so : (bs : List Band) → accepted bs ≡ true → Rule bs
  -- a timing is refused as 16 exactly if the table is not accepted, whatever else is wrong
  pub bad_first : (bs : List Band) (clock frequency : ℕ) → accepted bs ≡ false → timing_by bs clock frequency ≡ Err BadBands
  pub bad_only : (bs : List Band) (clock frequency : ℕ) → timing_by bs clock frequency ≡ Err BadBands → accepted bs ≡ false
  -- and as 17 exactly if it is accepted, 1 and 2 do not apply, and every row ends below the frequency
  pub above_first : (bs : List Band) (clock frequency : ℕ) → accepted bs ≡ true → frequency ≢ 0 → clock ≤ 250000000 →
      ((i : ℕ) → i < length bs → (row_at bs i).upper < frequency) → timing_by bs clock frequency ≡ Err NoBand
  pub above_only : (bs : List Band) (clock frequency : ℕ) → timing_by bs clock frequency ≡ Err NoBand →
      (accepted bs ≡ true) × (frequency ≢ 0) × (clock ≤ 250000000) × ((i : ℕ) → i < length bs → (row_at bs i).upper < frequency)
  -- with document 01's five bands it is document 01's timing, for every clock and every frequency
  pub five : (clock frequency : ℕ) → frequency < 2 ^ 32 → timing_by five_bands clock frequency ≡ timing_of clock frequency
  -- a cycle has at least four steps, so that nothing goes below 0
  pub steps : (bs : List Band) (i r : ℕ) → accepted bs ≡ true → i < length bs → 4 ≤ r →
      4 ≤ r / held_in (row_at bs i).shape (divider_of r (row_at bs i).d)
  -- what is given fits its fields, and packing does not refuse it
  pub fits : (bs : List Band) (clock frequency : ℕ) (t : I2cTiming) → timing_by bs clock frequency ≡ Ok t →
      (t.presc < 16) × (t.scldel < 16) × (t.sdadel < 16) × (t.sclh < 256) × (t.scll < 256)
  pub packs : (bs : List Band) (clock frequency : ℕ) (t : I2cTiming) → timing_by bs clock frequency ≡ Ok t → pack_of t ≡ Ok (raw_of t)
  -- rows that are written as bytes are read back, and the rows that are read of an accepted table are written as its bytes
  pub read_back : (bs : List Band) → Words bs → bands_in (table_of bs) ≡ bs
  pub written_back : (bytes : List ℕ) → Below 256 bytes → accepted (bands_in bytes) ≡ true → table_of (bands_in bytes) ≡ bytes
