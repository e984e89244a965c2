-- What is left to skip tells the size.
use Rattle.std.proofs.Common.{rules}
use Rattle.page.proofs.Entries.{skip_left, sized}
use Rattle.page.proofs.entry.size.Goals as goal

pub overflow_sub-result : goal.overflow_sub-result
overflow_sub-result c = search (rules, skip_left)

pub returns-clause-value : goal.returns-clause-value
returns-clause-value c = search (rules, sized)
