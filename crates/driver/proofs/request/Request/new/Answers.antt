-- What is accepted fits. Assumes nothing.
use native.Mathlib.Omega.{arith}
use mathlib.Core.Path.{sym, ◌∙◌}
use Rattle.calls.proofs.Fit.{accepted_fit}
use Rattle.driver.proofs.request.Request.new.Goals as goal

pub overflow_cast-result : goal.overflow_cast-result
overflow_cast-result c =
    omega (arith, (accepted_fit c.in_ok-call.call c.args.d c.args.operations.now c.args.buffer (sym c.check.ensures ∙ c.in_ok-call.was)).size)

pub invariant_of-result : goal.invariant_of-result
invariant_of-result c =
    let fit = accepted_fit c.in_ok-call.call c.args.d c.args.operations.now c.args.buffer (sym c.check.ensures ∙ c.in_ok-call.was) in
    record { fits = fit.size; few = fit.few; sum = fit.sum }
