-- The row of the frequency is that of the rows that are left. Assumes nothing.
use Rattle.std.proofs.Common.{◌≡◌, ◌/◌, length}
use Rattle.bands.specs.Bands.{band_for}
use Rattle.bands.specs.Table.{bands_from}
use Rattle.bands.proofs.find.Given as goal

abbrev pub invariant-loop-after : goal.invariant-loop-after
invariant-loop-after l =
    band_for l.frequency (bands_from (length l.rest / 24) l.rest) ≡ band_for l.frequency (bands_from (length l.table / 24) l.table)

abbrev pub decreases-loop-after : goal.decreases-loop-after
decreases-loop-after l = length l.rest
