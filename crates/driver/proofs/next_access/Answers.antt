-- What the next access of a taken saved call is. Assumes nothing.
use Rattle.std.specs.Prelude.{Ok}
use lib.ListN.{length}
use mathlib.Core.Path.{◌≡◌, sym, ap, ◌∙◌}
use mathlib.Core.Bool.{true}
use Rattle.kinds.proofs.Branch.{holds}
use Rattle.calls.proofs.Along.{no_access}
use Rattle.calls.specs.Next.{next_of}
use Rattle.calls.specs.Refusals.{request_of, accepts}
use Rattle.calls.specs.Steps.{access_at, access_of}
use Rattle.driver.proofs.Accepts.{stands, over}
use Rattle.driver.specs.declared.view.Cursor.{Cursor}
use Rattle.driver.proofs.next_access.Goals as goal

pub returns-in-Ok-Some : goal.returns-in-Ok-Some
unfolding access_of
returns-in-Ok-Some c =
    let r = c.in-Ok.request in
    let e = c.in-Ok.ensures in
    let at = stands r.call c.args.d r.operations.now r.size _ c.in-Ok-Some.first (sym c.standing.ensures ∙ c.in-Ok-Some.is ∙ ap Ok c.in-Ok-Some.field-0-is) in
    let taken : accepts (request_of r.call c.args.d c.args.ops.now (length c.args.buffer.now)) c.args.saved ≡ true = rw (e.1, e.2) at at.accepted in
    rw (e.0, taken)
    (c.register_at.ensures r.call c.args.buffer.now
    ∙ ap (λ (p : Cursor). next_of (access_at r.call c.args.d p.view c.args.buffer.now c.args.saved c.args.saved.step)) (rw (e.1, e.2) at at.at))

pub returns-in-Ok-None : goal.returns-in-Ok-None
returns-in-Ok-None c =
    let r = c.in-Ok.request in
    let e = c.in-Ok.ensures in
    let o = over r.call c.args.d r.operations.now r.size _ (sym c.standing.ensures ∙ c.in-Ok-None.is ∙ ap Ok c.in-Ok-None.field-0-is) in
    let taken : accepts (request_of r.call c.args.d c.args.ops.now (length c.args.buffer.now)) c.args.saved ≡ true = rw (e.1, e.2) at o.0 in
    rw (e.0, taken, no_access (request_of r.call c.args.d c.args.ops.now (length c.args.buffer.now)) c.args.buffer.now c.args.saved (holds o.1))
