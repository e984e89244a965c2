-- A wait that goes on is the general turn of it. Assumes nothing.
use Prim.Native.Nat.{◌<◌}
use borrow.Author.Rules.{rules}
use borrow.Author.Tests.{lt-ltb}
use lib.ListN.{length, get_or}
use mathlib.Core.Path.{◌≡◌}
use Rattle.driver.proofs.Shortcuts.{waited}
use Rattle.driver.proofs.quick.wait.Goals as goal

pub returns : goal.returns
returns c b q d =
    let some : c.args.used < length c.args.answers.now = search rules in
    let answer : get_or c.args.answers.now c.args.used 0 ≡ c.in_ok-a.a = search rules in
    rw (c.note.ensures, c.offset.ensures, ← answer)
    (waited q d c.args.v c.args.s b c.args.answers.now c.args.used c.args.log.now c.args.at c.in_ok-step.step c.requires.1
    (lt-ltb _ _ some) (rw answer (c.in_ok-step.ensures q d)))
