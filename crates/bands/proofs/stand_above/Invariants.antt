-- What is found of the rows that are left is found of all. Assumes nothing.
use Rattle.std.proofs.Common.{◌≡◌, ◌/◌, length}
use Rattle.bands.specs.Bounds.{rows_stand}
use Rattle.bands.proofs.stand_above.Given as goal

abbrev pub invariant-loop-after : goal.invariant-loop-after
invariant-loop-after l = rows_stand l.last (length l.rest / 24) l.rest ≡ rows_stand l.fn.last (length l.rows / 24) l.rows

abbrev pub decreases-loop-after : goal.decreases-loop-after
decreases-loop-after l = length l.rest
