-- An entry of no register has no lines.
use Rattle.std.proofs.Common.{rules}
use Rattle.page.proofs.Entries.{no_access}
use Rattle.page.proofs.entry.put_access.Goals as goal

pub returns-in-None : goal.returns-in-None
returns-in-None c = search (rules, no_access)
