-- A timing that fits its fields is packed, so that what is given is its word or its refusal. Assumes nothing.
use Rattle.std.specs.Prelude.{Result, Ok, Err}
use mathlib.Core.Path.{◌≡◌, refl, ap}
use Rattle.bands.proofs.Fits.{Fits, fits_packs}
use Rattle.boundary.specs.Timing.{packed_answer, packed_timed, timed_answer}
use Rattle.timing.specs.declared.I2cTiming.{I2cTiming}
use Rattle.timing.specs.declared.TimingRefusal.{TimingRefusal}

pub packed : (t : Result I2cTiming TimingRefusal) → Fits t → packed_timed t ≡ timed_answer t
packed (Ok t) w = ap packed_answer (fits_packs (Ok t) w)
packed (Err why) w = refl
