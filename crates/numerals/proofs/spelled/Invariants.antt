-- The digits of what is left, then the text from i on, are the whole.
use Rattle.std.proofs.Common.{◌≡◌, ◌++◌, length, drop}
use Rattle.numerals.specs.Numbers.{spelled_of}
use Rattle.numerals.proofs.spelled.Given as goal

abbrev pub invariant-loop-i : goal.invariant-loop-i
invariant-loop-i g l = record {
  whole : length l.text ≡ g.row.N;
  digits : spelled_of l.base l.i (g.T.Split.value l.rest) ++ drop l.i l.text ≡ spelled_of l.base g.row.N (g.T.Split.value l.fn.n);
}
