-- What is wrong with the entries that are left is what is wrong with the log.
use Rattle.std.proofs.Common.{◌≡◌, ◌+◌, ◌*◌, drop}
use Rattle.words.specs.Words.{words_in}
use Rattle.page.specs.Page.{fault_from, fault_of}
use Rattle.page.proofs.fault_in.Given as goal

abbrev pub invariant-loop-i : goal.invariant-loop-i
invariant-loop-i l = fault_from (l.i + 1) (words_in (drop (8 * l.i) l.log)) ≡ fault_of l.log
