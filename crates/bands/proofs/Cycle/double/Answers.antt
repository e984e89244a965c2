-- `Cycle::double` meets its contract: a cycle has at most 256 steps, and each return is by the test that led there. Assumes nothing.
use Rattle.std.proofs.Common.{◌∙◌, arith}
use Rattle.timing.specs.declared.Shape.TheVariants.{Double}
use Rattle.bands.proofs.Quotients.{most_steps}
use Rattle.bands.proofs.Shapes.{prescaler_over, all_fit}
use Rattle.bands.proofs.Cycle.double.Goals as goal

pub returns-then-p-gt16 : goal.returns-then-p-gt16
returns-then-p-gt16 c = prescaler_over Double _ _ _ _ c.divider-p.ensures.is (omega arith)

pub returns : goal.returns
returns c =
    let u = c.divider-p.ensures in
    c.settle.ensures ∙ all_fit Double _ _ _ _ u.is (omega arith) (omega (arith, most_steps u)) (omega (arith, most_steps u))
