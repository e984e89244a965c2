-- A token has room on the line, or the next line is begun.
use Rattle.std.proofs.Common.{rules}
use Rattle.page.proofs.Putting.{fits, breaks}
use Rattle.page.proofs.line.Line.make_room.Goals as goal

pub returns-then-self-n-le80-clause-out_after : goal.returns-then-self-n-le80-clause-out_after
returns-then-self-n-le80-clause-out_after c = search (rules, fits)

pub returns-clause-out_after : goal.returns-clause-out_after
returns-clause-out_after c = search (rules, breaks)
