-- The digits and a space.
use Rattle.std.proofs.Common.{rules}
use Rattle.page.proofs.Entries.{numbered}
use Rattle.page.proofs.entry.put_number.Goals as goal

pub returns : goal.returns
returns c = search (rules, numbered)
