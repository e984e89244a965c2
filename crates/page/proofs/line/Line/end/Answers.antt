-- Two texts put one after the other.
use Rattle.std.proofs.Common.{rules}
use Rattle.window.proofs.Laid.{then}
use Rattle.page.proofs.line.Line.end.Goals as goal

pub returns : goal.returns
returns c = search (rules, then)
