-- What the operations so far write was taken from n.
use Rattle.std.proofs.Common.{◌≡◌, ◌+◌, drop}
use Rattle.benchfile.specs.Calls.{write_bytes}
use Rattle.benchfile.proofs.head.has_write_bytes.Given as goal

abbrev pub invariant-loop-o : goal.invariant-loop-o
invariant-loop-o l = l.n + write_bytes (drop l.o-index l.ops) ≡ l.left + write_bytes l.ops
