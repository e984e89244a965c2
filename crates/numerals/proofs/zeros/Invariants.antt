-- The first i bytes are counted.
use Rattle.std.proofs.Common.{◌≡◌, ◌+◌, drop}
use lib.Dec.{eqb}
use Rattle.std.specs.List.{prefix_len}
use Rattle.numerals.proofs.zeros.Given as goal

abbrev pub invariant-loop-i : goal.invariant-loop-i
invariant-loop-i l = prefix_len (λ d. eqb d 48) l.s ≡ l.i + prefix_len (λ d. eqb d 48) (drop l.i l.s)
