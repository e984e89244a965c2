-- What the zeros in front leave, but for the last digit.
use Rattle.std.proofs.Common.{arith, take_all, length, length-drop, drop, ◌-◌, ◌∙◌}
use Rattle.numerals.proofs.Spelling.{without_zeros}
use Rattle.numerals.proofs.significant.Goals as goal

pub returns : goal.returns
returns c =
    take_all (length c.args.s.now - c.min.result) (drop c.min.result c.args.s.now) (simp length-drop (omega arith))
    ∙ rw (c.min.ensures, c.zeros.ensures.count, c.saturating_sub.ensures) (without_zeros c.args.s.now)
