-- What `calc_timing_params`, `load` and `timing_by` give a caller, and what is promised of speed bands, once more and in plain arithmetic:
-- document 01's table row by row, and a row of a board's own table. Nothing rests on this file: a contract or a promise that loses a
-- fact, and its proof with it, fails here. Assumes nothing.
use Rattle.std.specs.Prelude.{Some, Result, Ok, Err}
use Prim.Native.Nat.{ℕ, zero, suc, ◌+◌, ◌-◌, ◌*◌, ◌/◌, ◌%◌, ◌≤◌, ◌<◌, min, max}
use native.Mathlib.Omega.{arith}
use mathlib.Core.Logic.{◌≢◌}
use mathlib.Core.Path.{◌≡◌, refl, sym, ap, subst, ◌∙◌}
use mathlib.Core.Bool.{Bool, true, false, cond}
use mathlib.Core.List.{List, [], ◌∷◌}
use lib.Dec.{T, eqb, leb, ltb}
use lib.ListN.{length}
use borrow.Author.Tests.{lt-ltb, le-ltb, lt-leb, le-leb, eq-eqb, ne_eqb}
use borrow.Fn.Kinds
use borrow.Fn.World
use contract.Lifetimes.{Lfts}
use denote.Triple.Clauses
use Rattle.words.specs.Words.{words_in, bytes_of, Below}
use Rattle.timing.specs.Bands.{timing_of, band_of, in_band_of, equal_at, double_at, divider_of}
use Rattle.timing.specs.Timingr.{raw_of, pack_of}
use Rattle.timing.specs.declared.Band.{Band}
use Rattle.timing.specs.declared.I2cTiming.{I2cTiming}
use Rattle.timing.specs.declared.Shape.{Shape}
use Rattle.timing.specs.declared.Shape.TheVariants.{Equal, Double}
use Rattle.timing.specs.declared.TimingRefusal.TheVariants.{NoSpeed, ClockOver, Ratio, ClockSlow, SpeedLow, NoSetup, BadBands, NoBand}
use Rattle.bands.specs.Bands.{accepted, held_in, loaded_of, settled, shaped_in, in_row, band_for, by_found, timing_by, five_bands}
use Rattle.bands.specs.Bounds.{Sound, SoundIn}
use Rattle.bands.specs.Promises.{row_at, Rule, Words}
use Rattle.bands.specs.Table.{table_of, bands_in}
use Rattle.bands.proofs.Promised.{band_promises}
use Rattle.bands.proofs.Quotients.{divides, most_steps}
use Rattle.bands.proofs.Tables.{sound_found, all_sound_holds}
use Rattle.bands.proofs.Shapes.{prescaler_over, high_over, all_fit}
use Rattle.bands.specs.contracts.calc_timing_params as calc
use Rattle.bands.proofs.calc_timing_params.Kinds as calc-kinds
use Rattle.bands.proofs.calc_timing_params.Reads as calc-reads
use Rattle.bands.specs.contracts.load as load
use Rattle.bands.proofs.load.Kinds as load-kinds
use Rattle.bands.proofs.load.Reads as load-reads
use Rattle.bands.specs.contracts.timing_by as timing-by
use Rattle.bands.proofs.timing_by.Kinds as timing-by-kinds
use Rattle.bands.proofs.timing_by.Reads as timing-by-reads
use Rattle.timing.specs.declared.TimingRefusal.{TimingRefusal}

-- ---- No function asks anything of its caller.

calc_asks_nothing : (κs : Lfts 0) (a : borrow.Fn.World.ArgsD calc.signature κs) → calc-reads.Asked κs a
calc_asks_nothing κs a = tt

load_asks_nothing : (κs : Lfts 1) (a : borrow.Fn.World.ArgsD load.signature κs) → load-reads.Asked κs a
load_asks_nothing κs a = tt

timing_by_asks_nothing : (κs : Lfts 1) (a : borrow.Fn.World.ArgsD timing-by.signature κs) → timing-by-reads.Asked κs a
timing_by_asks_nothing κs a = tt

-- ---- The timing of a clock and a frequency, r being their ratio

-- up to 100 kHz
abbrev standard : ℕ → ℕ → ℕ → Result I2cTiming TimingRefusal
standard d clock r =
    let p : ℕ = min 16 ((r - 1) / d + 1) in
    cond (ltb clock 2000000) (Err ClockSlow)
    (cond (leb 8224 r) (Err SpeedLow)
    (cond (eqb (clock / 500000 / p) 0) (Err NoSetup)
    (Ok (record {
      presc = p - 1;
      scldel = min 15 (max 4 (clock / 500000 / p - 1));
      sdadel = min 15 (max 1 (clock / 2000000 / p));
      sclh = (r / p - 2) / 2;
      scll = (r / p - 2) / 2;
    }))))

-- above: the least clock and the two columns of the row
abbrev fast : ℕ → ℕ → ℕ → ℕ → ℕ → Result I2cTiming TimingRefusal
fast least sdadel scldel clock r =
    let p : ℕ = (r - 1) / 96 + 1 in
    cond (ltb clock least) (Err ClockSlow)
    (cond (leb 1537 r) (Err SpeedLow)
    (Ok (record {
      presc = p - 1;
      scldel = min 15 (max 4 (clock / scldel / p - 1));
      sdadel = min 15 (max 1 (clock / sdadel / p));
      sclh = (r / p - 3) / 3;
      scll = 2 * ((r / p - 3) / 3 + 1) - 1;
    })))

module _ (κs : Lfts 0) (a : borrow.Fn.World.ArgsD calc.signature κs) (t : borrow.Fn.World.ResD calc.signature κs)
    (x : denote.Triple.Clauses.AtExit (borrow.Fn.Kinds.ended_of 0 calc-kinds.ps calc-kinds.r) κs) (contract : calc-reads.Post κs a t x) where
  abbrev clock : ℕ
  clock = a.0

  abbrev frequency : ℕ
  frequency = a.1.0

  pub refused_1 : frequency ≡ 0 → t ≡ Err NoSpeed
  unfolding timing_of
  refused_1 e = contract ∙ rw (eq-eqb frequency 0 e)

  module _ (some : frequency ≢ 0) where
    pub refused_2 : 250000000 < clock → t ≡ Err ClockOver
    unfolding timing_of
    refused_2 h = contract ∙ rw (ne_eqb frequency 0 some, lt-ltb 250000000 clock h)

    module _ (most : clock ≤ 250000000) where
      pub refused_3 : clock / frequency < 4 → t ≡ Err Ratio
      unfolding timing_of
      refused_3 h = contract ∙ rw (ne_eqb frequency 0 some, le-ltb 250000000 clock most, lt-ltb (clock / frequency) 4 h)

      -- the rows: 4, 5, 6 or a timing
      module _ (ratio : 4 ≤ clock / frequency) where
        in_band : t ≡ in_band_of clock (clock / frequency) (band_of frequency)
        unfolding timing_of
        in_band = contract ∙ rw (ne_eqb frequency 0 some, le-ltb 250000000 clock most, le-ltb (clock / frequency) 4 ratio)

        pub up_to_7999 : frequency ≤ 7999 → t ≡ standard 256 clock (clock / frequency)
        unfolding band_of in_band_of equal_at
        up_to_7999 h = in_band ∙ rw (le-leb frequency 7999 h)

        pub up_to_79999 : 7999 < frequency → frequency ≤ 79999 → t ≡ standard 128 clock (clock / frequency)
        unfolding band_of in_band_of equal_at
        up_to_79999 g h = in_band ∙ rw (lt-leb frequency 7999 g, le-leb frequency 79999 h)

        pub up_to_100000 : 79999 < frequency → frequency ≤ 100000 → t ≡ standard 64 clock (clock / frequency)
        unfolding band_of in_band_of equal_at
        up_to_100000 g h = in_band ∙ rw (lt-leb frequency 7999 (omega arith), lt-leb frequency 79999 g, le-leb frequency 100000 h)

        pub up_to_400000 : 100000 < frequency → frequency ≤ 400000 → t ≡ fast 8000000 3000000 1000000 clock (clock / frequency)
        unfolding band_of in_band_of double_at
        up_to_400000 g h =
            in_band
            ∙ rw (lt-leb frequency 7999 (omega arith), lt-leb frequency 79999 (omega arith), lt-leb frequency 100000 g, le-leb frequency 400000 h)

        pub above_400000 : 400000 < frequency → t ≡ fast 17000000 8000000 4000000 clock (clock / frequency)
        unfolding band_of in_band_of double_at
        above_400000 g =
            in_band
            ∙ rw (
              lt-leb frequency 7999 (omega arith),
              lt-leb frequency 79999 (omega arith),
              lt-leb frequency 100000 (omega arith),
              lt-leb frequency 400000 g,
            )

-- ---- Loading a table

by_accepted : (t : Bool) → (t ≡ true → ⊥) → let bad : Result (Unit {0}) TimingRefusal = Err BadBands in cond t (Ok tt) bad ≡ bad
by_accepted true n = absurd (n refl)
by_accepted false n = refl

module _ (κs : Lfts 1) (a : borrow.Fn.World.ArgsD load.signature κs) (l : borrow.Fn.World.ResD load.signature κs)
    (x : denote.Triple.Clauses.AtExit (borrow.Fn.Kinds.ended_of 1 load-kinds.ps load-kinds.r) κs) (contract : load-reads.Post κs a l x) where
  abbrev loaded_rows : List Band
  loaded_rows = bands_in a.0.now

  pub loaded : Rule loaded_rows → l ≡ (Ok tt)
  unfolding loaded_of
  loaded R = contract ∙ rw (band_promises.accepts loaded_rows R)

  pub not_loaded : (Rule loaded_rows → ⊥) → l ≡ Err BadBands
  unfolding loaded_of
  not_loaded n = contract ∙ by_accepted (accepted loaded_rows) (λ e. n (band_promises.only_so loaded_rows e))

-- ---- The timing by a table

module _ (κs : Lfts 1) (a : borrow.Fn.World.ArgsD timing-by.signature κs) (t : borrow.Fn.World.ResD timing-by.signature κs)
    (x : denote.Triple.Clauses.AtExit (borrow.Fn.Kinds.ended_of 1 timing-by-kinds.ps timing-by-kinds.r) κs) (contract : timing-by-reads.Post κs a t x) where
  abbrev rows : List Band
  rows = bands_in a.0.now

  abbrev kernel : ℕ
  kernel = a.1.0

  abbrev bus : ℕ
  bus = a.1.1.0

  pub refused_16 : accepted rows ≡ false → t ≡ Err BadBands
  refused_16 e = contract ∙ band_promises.bad_first rows kernel bus e

  module _ (good : accepted rows ≡ true) where
    pub refused_1_by : bus ≡ 0 → t ≡ Err NoSpeed
    unfolding timing_by by_found
    refused_1_by e = contract ∙ rw (good, eq-eqb bus 0 e)

    module _ (some : bus ≢ 0) where
      pub refused_2_by : 250000000 < kernel → t ≡ Err ClockOver
      unfolding timing_by by_found
      refused_2_by h = contract ∙ rw (good, ne_eqb bus 0 some, lt-ltb 250000000 kernel h)

      module _ (most : kernel ≤ 250000000) where
        pub refused_17 : ((i : ℕ) → i < length rows → (row_at rows i).upper < bus) → t ≡ Err NoBand
        refused_17 f = contract ∙ band_promises.above_first rows kernel bus good some most f

        -- a row that is found: 3, 4, 5, 6 or a timing
        module _ (b : Band) (found : band_for bus rows ≡ Some b) where
          pub refused_3_by : kernel / bus < 4 → t ≡ Err Ratio
          unfolding timing_by by_found
          refused_3_by h = contract ∙ rw (good, ne_eqb bus 0 some, le-ltb 250000000 kernel most, found, lt-ltb (kernel / bus) 4 h)

          module _ (ratio : 4 ≤ kernel / bus) where
            in_its_row : t ≡ in_row kernel (kernel / bus) b
            unfolding timing_by by_found
            in_its_row = contract ∙ rw (good, ne_eqb bus 0 some, le-ltb 250000000 kernel most, found, le-ltb (kernel / bus) 4 ratio)

            pub refused_4_by : kernel < b.least → t ≡ Err ClockSlow
            unfolding in_row
            refused_4_by h = in_its_row ∙ rw (lt-ltb kernel b.least h)

            module _ (least : b.least ≤ kernel) where
              shaped : t ≡ shaped_in b.shape kernel (kernel / bus) b
              unfolding in_row
              shaped = in_its_row ∙ rw (le-ltb kernel b.least least)

              as_shape : (s : Shape) → b.shape ≡ s → shaped_in b.shape kernel (kernel / bus) b ≡ shaped_in s kernel (kernel / bus) b
              as_shape s e = ap (λ (s : Shape). shaped_in s kernel (kernel / bus) b) e

              -- an equal row: p is held to 16
              module _ (equal : b.shape ≡ Equal) where
                abbrev p : ℕ
                p = min 16 ((kernel / bus - 1) / b.d + 1)

                abbrev half : ℕ
                half = (kernel / bus / p - 2) / 2

                pub equal_5 : 255 < half → t ≡ Err SpeedLow
                equal_5 h = shaped ∙ as_shape Equal equal ∙ sym (high_over Equal kernel (kernel / bus) b p refl h)

                pub equal_6_or_timing : half ≤ 255 → t ≡ cond (eqb (kernel / b.scldel / p) 0) (Err NoSetup) (Ok (record {
                  presc = p - 1;
                  scldel = min 15 (max 4 (kernel / b.scldel / p - 1));
                  sdadel = min 15 (max 1 (kernel / b.sdadel / p));
                  sclh = half;
                  scll = half;
                }))
                unfolding settled
                equal_6_or_timing h = shaped ∙ as_shape Equal equal ∙ sym (all_fit Equal kernel (kernel / bus) b p refl (omega arith) h h)

              -- a double row: p is not held
              module _ (double : b.shape ≡ Double) where
                abbrev q : ℕ
                q = (kernel / bus - 1) / b.d + 1

                abbrev high : ℕ
                high = (kernel / bus / q - 3) / 3

                pub double_5 : 16 < q → t ≡ Err SpeedLow
                double_5 h = shaped ∙ as_shape Double double ∙ sym (prescaler_over Double kernel (kernel / bus) b q refl h)

                pub double_6_or_timing : q ≤ 16 → t ≡ cond (eqb (kernel / b.scldel / q) 0) (Err NoSetup) (Ok (record {
                  presc = q - 1;
                  scldel = min 15 (max 4 (kernel / b.scldel / q - 1));
                  sdadel = min 15 (max 1 (kernel / b.sdadel / q));
                  sclh = high;
                  scll = 2 * (high + 1) - 1;
                }))
                unfolding settled
                double_6_or_timing h =
                    let row : Sound b = subst SoundIn found (sound_found bus rows (all_sound_holds rows (subst T (sym good) tt))) in
                    let steps = most_steps (divides (kernel / bus) b.d ratio row.d_least row.d_most) in
                    shaped ∙ as_shape Double double ∙ sym (all_fit Double kernel (kernel / bus) b q refl h (omega (arith, steps)) (omega (arith, steps)))

-- ---- A table's bytes: which number stands where, and what is no table

pub one_row : bands_in (bytes_of (1 ∷ 2 ∷ 3 ∷ 4 ∷ 5 ∷ 1 ∷ [])) ≡ record { upper = 1; least = 2; d = 3; sdadel = 4; scldel = 5; shape = Double } ∷ []
unfolding bands_in words_in
one_row = refl

pub no_third_shape : bands_in (bytes_of (1 ∷ 2 ∷ 3 ∷ 4 ∷ 5 ∷ 2 ∷ [])) ≡ []
unfolding bands_in words_in
no_third_shape = refl

pub not_whole : (bytes : List ℕ) → length bytes % 24 ≢ 0 → bands_in bytes ≡ []
unfolding bands_in
not_whole bytes n = rw (ne_eqb (length bytes % 24) 0 n)

-- ---- What is promised, once more

true_not_false : true ≡ false → ⊥
true_not_false e = subst T e tt

pub never_16 : (bs : List Band) (clock frequency : ℕ) → Rule bs → timing_by bs clock frequency ≢ Err BadBands
never_16 bs clock frequency R e =
    absurd (true_not_false (sym (band_promises.accepts bs R) ∙ band_promises.bad_only bs clock frequency e))

-- 17 comes before 3: of an accepted table whose one row ends at 9, at a clock of 0
pub seventeen_before_three : (b : Band) → Rule (b ∷ []) → b.upper ≡ 9 → timing_by (b ∷ []) 0 10 ≡ Err NoBand
seventeen_before_three b R e = band_promises.above_first (b ∷ []) 0 10 (band_promises.accepts (b ∷ []) R) (omega arith) (omega arith) (λ i h. only i h)
  where
    only : (i : ℕ) → i < 1 → (row_at (b ∷ []) i).upper < 10
    only zero h = rw e (omega arith)
    only (suc i) h = absurd (omega arith)

pub seventeen_only : (bs : List Band) (clock frequency i : ℕ) → timing_by bs clock frequency ≡ Err NoBand → i < length bs →
    ((row_at bs i).upper < frequency) × (frequency ≢ 0) × (clock ≤ 250000000) × (1 ≤ length bs)
seventeen_only bs clock frequency i e h =
    (let (a, n, m, f) = band_promises.above_only bs clock frequency e in (f i h, n, m, (band_promises.only_so bs a).some))

pub five_at_the_end : (clock : ℕ) → timing_by five_bands clock 4294967295 ≡ timing_of clock 4294967295
five_at_the_end clock = band_promises.five clock 4294967295 (omega arith)

pub five_rows : length five_bands ≡ 5
five_rows = refl

pub at_least_four : (bs : List Band) → Rule bs → 4 ≤ 4 / held_in (row_at bs 0).shape (divider_of 4 (row_at bs 0).d)
at_least_four bs R = band_promises.steps bs 0 4 (band_promises.accepts bs R) R.some (omega arith)

pub sum_of_fields : (bs : List Band) (clock frequency : ℕ) (t : I2cTiming) → timing_by bs clock frequency ≡ Ok t →
    t.presc + t.scldel + t.sdadel + t.sclh + t.scll ≤ 555
sum_of_fields bs clock frequency t e = (let (a, b, c, d, f) = band_promises.fits bs clock frequency t e in omega arith)

pub packed_whole : (bs : List Band) (clock frequency : ℕ) (t : I2cTiming) → timing_by bs clock frequency ≡ Ok t → pack_of t ≡ Ok (raw_of t)
packed_whole = band_promises.packs

pub one_table : (bs bs' : List Band) → Words bs → Words bs' → table_of bs ≡ table_of bs' → bs ≡ bs'
one_table bs bs' w w' e = sym (band_promises.read_back bs w) ∙ ap bands_in e ∙ band_promises.read_back bs' w'

-- no byte of an accepted table is left out
pub all_bytes : (bytes bytes' : List ℕ) → Below 256 bytes → Below 256 bytes' → accepted (bands_in bytes) ≡ true → bands_in bytes ≡ bands_in bytes' → bytes ≡ bytes'
all_bytes bytes bytes' w w' a e =
    sym (band_promises.written_back bytes w a) ∙ ap table_of e ∙ band_promises.written_back bytes' w' (ap accepted (sym e) ∙ a)

-- any two rows of an accepted table, and each of its rows
pub rule_of_two : (b c : Band) → Rule (b ∷ c ∷ []) → (b.upper < c.upper) × (8 ≤ c.d) × (c.d ≤ 256) × (b.sdadel ≢ 0) × (c.scldel ≢ 0)
rule_of_two b c R = (R.rises 0 1 (omega arith) (omega arith), R.d_least 1 (omega arith), R.d_most 1 (omega arith), R.sdadel 0 (omega arith), R.scldel 1 (omega arith))

pub at_most_sixteen : (bs : List Band) → accepted bs ≡ true → length bs < 17
at_most_sixteen bs e = (let h = (band_promises.only_so bs e).few in omega arith)
