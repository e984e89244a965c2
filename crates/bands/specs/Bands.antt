-- The timing by a board's own speed bands (document 02, R-4), kernel clock and bus frequency in hertz. A row has document 01's columns:
-- upper frequency, least clock, d, the divisors of SDADEL and SCLDEL, and its shape. All divisions are whole. Document 01's own rule
-- is `timing_of` of the crate `timing`; with `five_bands` the two are the same. Assumes nothing.
use Rattle.std.specs.Prelude.{ℕ, ◌+◌, ◌-◌, ◌*◌, ◌/◌, min, Bool, true, cond, ◌&&◌, ◌||◌, List, [], ◌∷◌, ◌++◌, eqb, leb, ltb, length, Option, Some, None, Result, Ok, Err}
use Rattle.timing.specs.Bands.{bands, above, divider_of, fields_of}
use Rattle.timing.specs.declared.Band.{Band}
use Rattle.timing.specs.declared.Shape.{Shape}
use Rattle.timing.specs.declared.Shape.TheVariants.{Equal, Double}
use Rattle.timing.specs.declared.TimingRefusal.TheVariants.{NoSpeed, ClockOver, Ratio, ClockSlow, SpeedLow, NoSetup, BadBands, NoBand}
use Rattle.timing.specs.declared.I2cTiming.{I2cTiming}
use Rattle.timing.specs.declared.TimingRefusal.{TimingRefusal}

-- ---- Which tables are accepted: 1 to 16 rows, d from 8 to 256, no delay divisor 0, the upper frequencies strictly rising.

abbrev pub sound : Band → Bool
sound b = leb 8 b.d && (leb b.d 256 && (leb 1 b.sdadel && leb 1 b.scldel))

abbrev pub all_sound : List Band → Bool
all_sound [] = true
all_sound (b ∷ bs) = sound b && all_sound bs

-- each upper frequency is above the one before it
abbrev pub rising_above : ℕ → List Band → Bool
rising_above last [] = true
rising_above last (b ∷ bs) = ltb last b.upper && rising_above b.upper bs

abbrev pub rising : List Band → Bool
rising [] = true
rising (b ∷ bs) = rising_above b.upper bs

unfoldable pub accepted : List Band → Bool
accepted bs = leb 1 (length bs) && (leb (length bs) 16 && (all_sound bs && rising bs))

unfoldable pub loaded_of : List Band → Result (Unit {0}) TimingRefusal
loaded_of bs = cond (accepted bs) (Ok tt) (Err BadBands)

-- ---- The timing in a row, for a cycle of r clocks

-- which p: held to 16 in an equal row
abbrev pub held_in : Shape → ℕ → ℕ
held_in Equal p = min 16 p
held_in Double p = p

-- the high and the low part of a cycle of c steps
abbrev pub high_in : Shape → ℕ → ℕ
high_in Equal c = (c - 2) / 2
high_in Double c = (c - 3) / 3

abbrev pub low_in : Shape → ℕ → ℕ
low_in Equal c = (c - 2) / 2
low_in Double c = 2 * (high_in Double c + 1) - 1

-- Refused as 6 where no setup time is left.
unfoldable pub settled : ℕ → Band → ℕ → ℕ → ℕ → Result I2cTiming TimingRefusal
settled clock b p sclh scll =
    cond (eqb (clock / b.scldel / p) 0) (Err NoSetup)
    (Ok (fields_of clock b p sclh scll))

-- Refused as 5 where p or a part of the cycle does not fit its field.
unfoldable pub shaped_in : Shape → ℕ → ℕ → Band → Result I2cTiming TimingRefusal
shaped_in s clock r b =
    let p = held_in s (divider_of r b.d) in
    let high = high_in s (r / p) in
    let low = low_in s (r / p) in
    cond (ltb 16 p || (ltb 255 high || ltb 255 low)) (Err SpeedLow)
    (settled clock b p high low)

unfoldable pub in_row : ℕ → ℕ → Band → Result I2cTiming TimingRefusal
in_row clock r b = cond (ltb clock b.least) (Err ClockSlow) (shaped_in b.shape clock r b)

-- ---- The timing by a table

-- the first row that the frequency does not exceed
abbrev pub band_for : ℕ → List Band → Option Band
band_for frequency [] = None
band_for frequency (b ∷ bs) = cond (leb frequency b.upper) (Some b) (band_for frequency bs)

abbrev pub by_row : ℕ → ℕ → Band → Result I2cTiming TimingRefusal
by_row clock frequency b = cond (ltb (clock / frequency) 4) (Err Ratio) (in_row clock (clock / frequency) b)

-- the row that was found, or 17
abbrev pub in_found : ℕ → ℕ → Option Band → Result I2cTiming TimingRefusal
in_found clock frequency (Some b) = by_row clock frequency b
in_found clock frequency None = Err NoBand

-- 1 and 2 before 17, and the others after it
unfoldable pub by_found : ℕ → ℕ → Option Band → Result I2cTiming TimingRefusal
by_found clock frequency found =
    cond (eqb frequency 0) (Err NoSpeed)
    (cond (ltb 250000000 clock) (Err ClockOver)
    (in_found clock frequency found))

-- and 16 before all of them
unfoldable pub timing_by : List Band → ℕ → ℕ → Result I2cTiming TimingRefusal
timing_by bs clock frequency = cond (accepted bs) (by_found clock frequency (band_for frequency bs)) (Err BadBands)

-- Document 01's table, its last row ending at 4,294,967,295.
abbrev pub five_bands : List Band
five_bands = bands ++ (above ∷ [])
