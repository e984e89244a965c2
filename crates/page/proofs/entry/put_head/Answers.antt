-- Five texts put one after the other.
use Rattle.std.proofs.Common.{rules}
use Rattle.page.proofs.Entries.{headed}
use Rattle.page.proofs.entry.put_head.Goals as goal

pub returns : goal.returns
returns c = search (rules, headed)
