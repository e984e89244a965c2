-- `Cycle::equal` meets its contract: each return is by the test that led there. Assumes nothing.
use Rattle.std.proofs.Common.{◌≡◌, ◌∙◌, min, arith}
use Rattle.timing.specs.Bands.{divider_of}
use Rattle.timing.specs.declared.Shape.TheVariants.{Equal}
use Rattle.bands.proofs.Shapes.{high_over, all_fit}
use Rattle.bands.proofs.Cycle.equal.Goals as goal

pub returns-then-half-gt255 : goal.returns-then-half-gt255
returns-then-half-gt255 c =
    let is : c.min-p.result ≡ min 16 (divider_of c.args.self.r c.args.self.band.d) = omega (arith, c.min-p.ensures, c.divider.ensures.is) in
    high_over Equal _ _ _ _ is (omega arith)

pub returns : goal.returns
returns c =
    let is : c.min-p.result ≡ min 16 (divider_of c.args.self.r c.args.self.band.d) = omega (arith, c.min-p.ensures, c.divider.ensures.is) in
    c.settle.ensures ∙ all_fit Equal _ _ _ _ is (omega arith) (omega arith) (omega arith)
