-- Ten digits tell as much as twenty.
use Rattle.std.proofs.Common.{rules, arith}
use Rattle.numerals.proofs.Spelling.{ten_tell}
use Rattle.numerals.proofs.ten_digits.Goals as goal

pub returns : goal.returns
returns c = ten_tell c.args.n c.spelled.result (omega arith) (search rules)
