-- What is found from operation k on is the whole.
use Prim.Native.Nat.{◌+◌, ◌≤◌}
use mathlib.Core.Path.{◌≡◌}
use lib.ListN.{length, drop}
use Rattle.calls.specs.Refusals.{total}
use Rattle.driver.proofs.Positions.{shifted}
use Rattle.driver.specs.Views.{position_of}
use Rattle.driver.proofs.view.position_at.Given as goal

abbrev pub invariant-loop-k : goal.invariant-loop-k
invariant-loop-k l =
    (l.k ≤ length l.ops) × (l.k + l.left ≤ l.i) × (l.start + total (drop l.k l.ops) ≤ 65535)
    × (shifted l.k l.start (position_of (drop l.k l.ops) l.left) ≡ position_of l.ops l.i)
