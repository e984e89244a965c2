-- The first code that is no register's is the fault.
use Rattle.std.proofs.Common.{rules}
use borrow.Author.Tests.{not-true, not-false}
use Rattle.page.proofs.Logs.{not_whole, whole, no_fault, bad_code, next_code}
use Rattle.page.proofs.fault_in.Goals as goal

pub returns-then-not-is_empty : goal.returns-then-not-is_empty
returns-then-not-is_empty c = search (rules, not_whole)

pub loop-i-init : goal.loop-i-init
loop-i-init c = search (rules, whole)

pub returns-then-not-is_known : goal.returns-then-not-is_known
returns-then-not-is_known c = search (rules, bad_code, not-true)

pub loop-i-preserved : goal.loop-i-preserved
loop-i-preserved c = search (rules, next_code, not-false)

pub returns : goal.returns
returns c = search (rules, no_fault)
