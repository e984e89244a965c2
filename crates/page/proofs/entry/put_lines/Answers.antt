-- The head, the fields and the end of the line are the lines of an entry.
use Rattle.std.proofs.Common.{rules}
use Rattle.page.proofs.Entries.{lines_put}
use Rattle.page.proofs.entry.put_lines.Goals as goal

pub returns : goal.returns
returns c = search (rules, lines_put)
