-- The timing of a bus frequency from a kernel clock, both in hertz (document 01, "Leaves": the table of bands and the
-- lines around it; refusals 1 to 6 in their order). All divisions are whole. Assumes nothing.
use Rattle.std.specs.Prelude.{ℕ, ◌+◌, ◌-◌, ◌*◌, ◌/◌, min, max, cond, List, [], ◌∷◌, eqb, leb, ltb, Result, Ok, Err}
use Rattle.timing.specs.declared.Band.{Band}
use Rattle.timing.specs.declared.Shape.{Shape}
use Rattle.timing.specs.declared.Shape.TheVariants.{Equal, Double}
use Rattle.timing.specs.declared.I2cTiming.{I2cTiming}
use Rattle.timing.specs.declared.TimingRefusal.TheVariants.{NoSpeed, ClockOver, Ratio, ClockSlow, SpeedLow, NoSetup}
use Rattle.timing.specs.declared.TimingRefusal.{TimingRefusal}

abbrev pub row : ℕ → ℕ → ℕ → ℕ → ℕ → Shape → Band
row upper least d sdadel scldel shape =
    record { upper = upper; least = least; d = d; sdadel = sdadel; scldel = scldel; shape = shape }

--  frequency up to, least clock, d, sdadel, scldel, and whether the halves of a cycle are equal or the low one is double
abbrev pub bands : List Band
bands =
    row 7999 2000000 256 2000000 500000 Equal
    ∷ row 79999 2000000 128 2000000 500000 Equal
    ∷ row 100000 2000000 64 2000000 500000 Equal
    ∷ row 400000 8000000 96 3000000 1000000 Double
    ∷ []

abbrev pub above : Band
above = row 4294967295 17000000 96 8000000 4000000 Double

-- The first row that the frequency does not exceed.
abbrev pub first_up_to : ℕ → List Band → Band
first_up_to frequency [] = above
first_up_to frequency (b ∷ bs) = cond (leb frequency b.upper) b (first_up_to frequency bs)

unfoldable pub band_of : ℕ → Band
band_of frequency = first_up_to frequency bands

-- x held to lo .. hi
abbrev pub held : ℕ → ℕ → ℕ → ℕ
held lo hi x = min hi (max lo x)

-- p of document 01, before any limit: how often d goes into a cycle of r clocks, rounded up
abbrev pub divider_of : ℕ → ℕ → ℕ
divider_of r d = (r - 1) / d + 1

-- the fields for a prescaler p, with the two halves of a cycle
abbrev pub fields_of : ℕ → Band → ℕ → ℕ → ℕ → I2cTiming
fields_of clock b p sclh scll =
    record {
      presc = p - 1;
      scldel = held 4 15 (clock / b.scldel / p - 1);
      sdadel = held 1 15 (clock / b.sdadel / p);
      sclh = sclh;
      scll = scll;
    }

-- Up to 100 kHz both halves are (c - 2) / 2.
unfoldable pub equal_at : ℕ → ℕ → Band → ℕ → Result I2cTiming TimingRefusal
equal_at clock r b p =
    let half = (r / p - 2) / 2 in
    cond (eqb (clock / b.scldel / p) 0) (Err NoSetup)
    (Ok (fields_of clock b p half half))

-- Above, the high part is (c - 3) / 3 and the low one twice as long.
unfoldable pub double_at : ℕ → ℕ → Band → ℕ → Result I2cTiming TimingRefusal
double_at clock r b p =
    let high = (r / p - 3) / 3 in
    Ok (fields_of clock b p high (2 * (high + 1) - 1))

-- Which prescaler: up to 100 kHz at most 16.
abbrev pub shaped_of : Shape → ℕ → ℕ → Band → Result I2cTiming TimingRefusal
shaped_of Equal clock r b = cond (leb 8224 r) (Err SpeedLow) (equal_at clock r b (min 16 (divider_of r b.d)))
shaped_of Double clock r b = cond (leb 1537 r) (Err SpeedLow) (double_at clock r b (divider_of r b.d))

-- A cycle of r clocks in a band.
unfoldable pub in_band_of : ℕ → ℕ → Band → Result I2cTiming TimingRefusal
in_band_of clock r b = cond (ltb clock b.least) (Err ClockSlow) (shaped_of b.shape clock r b)

unfoldable pub timing_of : ℕ → ℕ → Result I2cTiming TimingRefusal
timing_of clock frequency =
    cond (eqb frequency 0) (Err NoSpeed)
    (cond (ltb 250000000 clock) (Err ClockOver)
    (cond (ltb (clock / frequency) 4) (Err Ratio)
    (in_band_of clock (clock / frequency) (band_of frequency))))
