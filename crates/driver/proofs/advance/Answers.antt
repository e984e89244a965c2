-- What row 13 takes is known to the loop, and an ended call is over. Assumes nothing.
use Rattle.std.specs.Prelude.{Ok}
use Prim.Native.Nat.{◌/◌}
use lib.ListN.{length}
use mathlib.Core.Path.{◌≡◌, sym, ap, ◌∙◌}
use mathlib.Core.Bool.{true}
use Rattle.kinds.proofs.Branch.{holds, fails}
use Rattle.calls.proofs.Accepted.{known}
use Rattle.calls.specs.Refusals.{request_of, accepts}
use Rattle.calls.specs.Run.{run_of}
use Rattle.driver.proofs.Accepts.{stands, over}
use Rattle.driver.proofs.Loop.{ended}
use Rattle.driver.proofs.advance.Goals as goal

pub run-requires-clause-known : goal.run-requires-clause-known
run-requires-clause-known c =
    let r = c.in-Ok.request in
    let at = stands r.call c.args.d r.operations.now r.size _ c.in-Ok-Some.first (sym c.standing.ensures ∙ c.in-Ok-Some.is ∙ ap Ok c.in-Ok-Some.field-0-is) in
    known (request_of r.call c.args.d r.operations.now r.size) c.args.saved (holds at.accepted) (fails at.going)

pub returns-in-Ok-None : goal.returns-in-Ok-None
unfolding run_of
returns-in-Ok-None c =
    let r = c.in-Ok.request in
    let e = c.in-Ok.ensures in
    let o = over r.call c.args.d r.operations.now r.size _ (sym c.standing.ensures ∙ c.in-Ok-None.is ∙ ap Ok c.in-Ok-None.field-0-is) in
    let taken : accepts (request_of r.call c.args.d c.args.ops.now (length c.args.buffer.now)) c.args.saved ≡ true = rw (e.1, e.2) at o.0 in
    rw (
      c.stopped.ensures,
      e.0,
      taken,
      ended (request_of r.call c.args.d c.args.ops.now (length c.args.buffer.now)) (length c.args.log.now / 2) c.args.saved c.args.buffer.now
          c.args.answers.now (holds o.1),
    )
