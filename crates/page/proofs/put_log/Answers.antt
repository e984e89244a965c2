-- The entries of the words of a log, one after the other.
use Rattle.std.proofs.Common.{rules}
use Rattle.page.proofs.Logs.{log_put, next_put}
use Rattle.page.proofs.put_log.Goals as goal

pub loop-entry-preserved : goal.loop-entry-preserved
loop-entry-preserved c = record { six_digits = search rules; rest = search (rules, next_put) }

pub returns : goal.returns
returns c = search (rules, log_put)
