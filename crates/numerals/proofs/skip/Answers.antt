-- What is left once the run is passed.
use Rattle.std.proofs.Common.{arith, take_all, length, length-drop, drop, ◌-◌, ◌∙◌}
use Rattle.numerals.specs.Words.{blank_is}
use Rattle.numerals.proofs.Words.{left}
use Rattle.numerals.proofs.skip.Goals as goal

pub returns : goal.returns
returns c =
    take_all (length c.args.s.now - c.run.result) (drop c.run.result c.args.s.now) (simp length-drop (omega arith))
    ∙ rw c.run.ensures.count (left (blank_is c.args.blank) c.args.s.now)
