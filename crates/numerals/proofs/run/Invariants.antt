-- The first i bytes are counted.
use Rattle.std.proofs.Common.{◌≡◌, ◌+◌, drop}
use Rattle.std.specs.List.{prefix_len}
use Rattle.numerals.specs.Words.{blank_is}
use Rattle.numerals.proofs.run.Given as goal

abbrev pub invariant-loop-i : goal.invariant-loop-i
invariant-loop-i l = prefix_len (blank_is l.blank) l.s ≡ l.i + prefix_len (blank_is l.blank) (drop l.i l.s)
