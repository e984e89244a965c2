-- The lines of what the code says are the lines of the entry.
use Rattle.std.proofs.Common.{rules}
use Rattle.page.proofs.Entries.{entry_put}
use Rattle.page.proofs.entry.put_entry.Goals as goal

pub returns : goal.returns
returns c = search (rules, entry_put)
