-- The entries by their last six digits, one after the other.
use Rattle.std.proofs.Common.{rules}
use Rattle.page.proofs.Logs.{same_start, entries_put, next_entry}
use Rattle.page.proofs.put_entries.Goals as goal

pub loop-entry-init : goal.loop-entry-init
loop-entry-init c = record { six_digits = search rules; rest = search (rules, same_start) }

pub loop-entry-preserved : goal.loop-entry-preserved
loop-entry-preserved c = record { six_digits = search rules; rest = search (rules, next_entry) }

pub returns : goal.returns
returns c = search (rules, entries_put)
