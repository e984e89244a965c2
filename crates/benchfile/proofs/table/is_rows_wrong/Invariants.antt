-- The rows that are left decide.
use Rattle.std.proofs.Common.{◌≡◌, ◌-◌}
use Rattle.benchfile.specs.File.{rows_wrong}
use Rattle.benchfile.proofs.table.is_rows_wrong.Given as goal

abbrev pub invariant-loop : goal.invariant-loop
invariant-loop l = rows_wrong l.n l.rows l.bodies ≡ rows_wrong (l.n - l.counter) l.table l.rest
