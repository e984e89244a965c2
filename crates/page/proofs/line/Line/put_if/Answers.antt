-- A flag that is set is a token, and one that is not is none.
use Rattle.std.proofs.Common.{rules}
use Rattle.page.proofs.Putting.{set_bit, clear_bit}
use Rattle.page.proofs.line.Line.put_if.Goals as goal

pub returns-then-flag : goal.returns-then-flag
returns-then-flag c = search (rules, set_bit)

pub returns : goal.returns
returns c = search (rules, clear_bit)
