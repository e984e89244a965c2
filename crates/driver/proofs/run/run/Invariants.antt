-- Both loops go by the same: what is still to come, put after what was done, is the whole advance; the cursor is that of the
-- running piece, and what row 13 asks holds.
use Prim.Native.Nat.{◌+◌, ◌-◌, ◌<◌, ◌≤◌}
use mathlib.Core.Path.{◌≡◌}
use Rattle.calls.specs.Calls.{Request}
use Rattle.calls.specs.Refusals.{request_of}
use Rattle.driver.proofs.Loop.{to_come, Going}
use Rattle.driver.specs.Views.{cursor_at}
use Rattle.driver.proofs.run.run.Given as goal

abbrev pub invariant-turns : goal.invariant-turns
invariant-turns l =
    let q : Request = request_of l.request.call l.d l.request.operations.now l.request.size in
    Going q l.answers l.places (to_come q l.answers l.places l.fn.buffer l.fn.log l.fn.saved 0 0) l.fn.buffer l.fn.log l.buffer l.log l.s l.p.view l.used l.written
    × (l.written ≤ l.places) × (l.p ≡ cursor_at l.request.call l.request.operations.now l.request.size l.s.piece)

abbrev pub decreases-turns : goal.decreases-turns
decreases-turns l = l.places - l.written

abbrev pub invariant-quick : goal.invariant-quick
invariant-quick l =
    let q : Request = request_of l.request.call l.d l.request.operations.now l.request.size in
    Going q l.answers l.places (to_come q l.answers l.places l.fn.buffer l.fn.log l.fn.saved 0 0) l.fn.buffer l.fn.log l.buffer l.log l.s l.v l.used l.written
    × (l.written < l.places) × (l.initial.written ≤ l.written) × (l.p ≡ cursor_at l.request.call l.request.operations.now l.request.size l.s.piece)

abbrev pub decreases-quick : goal.decreases-quick
decreases-quick l = l.places - l.written
