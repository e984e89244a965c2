-- The value read so far and the digits from b on give the number.
use Rattle.std.proofs.Common.{◌≡◌, ◌<◌, ◌^◌, drop}
use Rattle.numerals.specs.Numbers.{number_of}
use Rattle.numerals.proofs.Numbers.{number_after}
use Rattle.numerals.proofs.number.Given as goal

abbrev pub invariant-loop-b : goal.invariant-loop-b
invariant-loop-b l = (l.value < 2 ^ 32) × (number_of l.base l.s ≡ number_after l.base l.value (drop l.b-index l.s))
