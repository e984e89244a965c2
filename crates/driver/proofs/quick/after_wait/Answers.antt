-- What the flags say of a wait. Assumes nothing.
use mathlib.Core.Path.{sym, ◌∙◌}
use Rattle.kinds.proofs.Branch.{told}
use Rattle.driver.proofs.Shortcuts.{idle, ready}
use Rattle.driver.proofs.quick.after_wait.Goals as goal

pub returns-then-flags-eq0 : goal.returns-then-flags-eq0
returns-then-flags-eq0 c q d = idle q c.args.v c.args.s c.args.a (sym c.get-flags.ensures ∙ c.if-flags-eq0.true) d

pub returns-then-is_ready : goal.returns-then-is_ready
returns-then-is_ready c q d =
    ready q c.args.v c.args.s c.args.a _ c.get-flags.ensures (told c.is_ready.ensures c.if-is_ready.true) d
