-- A digit is written in front of those that are there.
use Rattle.std.proofs.Common.{rules, arith, length-set}
use Rattle.numerals.proofs.Spelling.{writes, ends}
use Rattle.numerals.proofs.spelled.Goals as goal

pub loop-i-preserved : goal.loop-i-preserved
loop-i-preserved g c = record {
  whole = simp length-set c.loop-i.invariant.whole;
  digits =
      rw c.split-others.ensures.others
      (writes c.args.base c.loop-i.i (g.T.Split.value c.loop-i.rest) c.hex_digit.result c.loop-i.text _ c.loop-i.invariant.digits (omega arith) (omega arith) (search rules));
}

pub returns : goal.returns
returns g c = ends c.args.base c.loop-i.i (g.T.Split.value c.loop-i.rest) c.loop-i.text _ c.loop-i.invariant.digits (omega arith)
