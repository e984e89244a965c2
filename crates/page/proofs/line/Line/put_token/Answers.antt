-- A space and two texts put one after the other are a token.
use Rattle.std.proofs.Common.{rules}
use Rattle.page.proofs.Putting.{added}
use Rattle.page.proofs.line.Line.put_token.Goals as goal

pub returns : goal.returns
returns c = search (rules, added)
