-- A timing that is worked out fits TIMINGR's fields, whatever the table, so that packing it is never refused. Assumes nothing.
use Rattle.std.specs.Prelude.{Option, Some, None, Result, Ok, Err}
use Prim.Native.Nat.{ℕ, ◌/◌, ◌≤◌}
use native.Mathlib.Omega.{arith}
use mathlib.Core.Path.{◌≡◌, refl, subst}
use mathlib.Core.Bool.{Bool, true, false, ◌||◌}
use mathlib.Core.List.{List}
use lib.Dec.{T, ltb, eqb}
use borrow.Author.Tests.{ltb-false}
use Rattle.timing.specs.Bands.{divider_of, fields_of, timing_of}
use Rattle.timing.specs.Timingr.{raw_of, pack_of}
use Rattle.timing.specs.declared.Band.{Band}
use Rattle.timing.specs.declared.Shape.{Shape}
use Rattle.timing.proofs.Round.{Within, packs}
use Rattle.bands.specs.Bands.{accepted, held_in, high_in, low_in, settled, shaped_in, in_row, band_for, by_row, in_found, by_found, timing_by, five_bands}
use Rattle.bands.proofs.Either.{either}
use Rattle.bands.proofs.Five.{five_bands_holds}
use Rattle.timing.specs.declared.I2cTiming.{I2cTiming}
use Rattle.timing.specs.declared.TimingRefusal.{TimingRefusal}

abbrev pub Fits : Result I2cTiming TimingRefusal → Type 0
Fits (Ok t) = Within t
Fits (Err why) = Unit {0}

neither_l : (x y : Bool) → (x || y) ≡ false → x ≡ false
neither_l true y e = e
neither_l false y e = refl

neither_r : (x y : Bool) → (x || y) ≡ false → y ≡ false
neither_r true y e = absurd (subst T e tt)
neither_r false y e = e

-- the delays are held to 15
fields_fit : (clock : ℕ) (b : Band) (p h l : ℕ) → p ≤ 16 → h ≤ 255 → l ≤ 255 → Fits (Ok (fields_of clock b p h l))
fields_fit clock b p h l m n o = record { presc = omega arith; scldel = omega arith; sdadel = omega arith; sclh = omega arith; scll = omega arith }

settled_fits : (clock : ℕ) (b : Band) (p h l : ℕ) → p ≤ 16 → h ≤ 255 → l ≤ 255 → Fits (settled clock b p h l)
unfolding settled
settled_fits clock b p h l m n o = either Fits (eqb (clock / b.scldel / p) 0) _ _ (λ _. tt) (λ _. fields_fit clock b p h l m n o)

shaped_fits : (s : Shape) (clock r : ℕ) (b : Band) → Fits (shaped_in s clock r b)
unfolding shaped_in
shaped_fits s clock r b =
    let p = held_in s (divider_of r b.d) in
    let high = high_in s (r / p) in
    let low = low_in s (r / p) in
    let halves : Bool = ltb 255 high || ltb 255 low in
    either Fits (ltb 16 p || halves) _ _ (λ _. tt) (λ t.
    let u = neither_r (ltb 16 p) halves t in
    settled_fits clock b p high low
    (ltb-false 16 p (neither_l (ltb 16 p) halves t))
    (ltb-false 255 high (neither_l (ltb 255 high) (ltb 255 low) u))
    (ltb-false 255 low (neither_r (ltb 255 high) (ltb 255 low) u)))

in_row_fits : (clock r : ℕ) (b : Band) → Fits (in_row clock r b)
unfolding in_row
in_row_fits clock r b = either Fits (ltb clock b.least) _ _ (λ _. tt) (λ _. shaped_fits b.shape clock r b)

by_row_fits : (clock frequency : ℕ) (b : Band) → Fits (by_row clock frequency b)
by_row_fits clock frequency b = either Fits (ltb (clock / frequency) 4) _ _ (λ _. tt) (λ _. in_row_fits clock (clock / frequency) b)

in_found_fits : (clock frequency : ℕ) (found : Option Band) → Fits (in_found clock frequency found)
in_found_fits clock frequency (Some b) = by_row_fits clock frequency b
in_found_fits clock frequency None = tt

pub bands_fit : (bs : List Band) (clock frequency : ℕ) → Fits (timing_by bs clock frequency)
unfolding timing_by by_found
bands_fit bs clock frequency =
    either Fits (accepted bs) _ _
    (λ _. either Fits (eqb frequency 0) _ _ (λ _. tt) (λ _. either Fits (ltb 250000000 clock) _ _ (λ _. tt) (λ _. in_found_fits clock frequency (band_for frequency bs))))
    (λ _. tt)

pub timing_fits : (clock frequency : ℕ) → frequency ≤ 4294967295 → Fits (timing_of clock frequency)
timing_fits clock frequency h = subst Fits (five_bands_holds clock frequency h) (bands_fit five_bands clock frequency)

abbrev pub Packs : Result I2cTiming TimingRefusal → Type 0
Packs (Ok t) = pack_of t ≡ Ok (raw_of t)
Packs (Err why) = Unit {0}

pub fits_packs : (t : Result I2cTiming TimingRefusal) → Fits t → Packs t
fits_packs (Ok t) w = packs t w
fits_packs (Err why) w = tt
