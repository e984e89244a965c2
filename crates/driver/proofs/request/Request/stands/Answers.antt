-- No piece is longer than the buffer.
use mathlib.Core.Path.{ap}
use Rattle.driver.proofs.Pieces.{fit_of, view_small}
use Rattle.driver.specs.declared.view.Cursor.{Cursor}
use Rattle.driver.proofs.request.Request.stands.Goals as goal

pub at_byte-requires : goal.at_byte-requires
at_byte-requires c = view_small _ _ _ (fit_of c.args.self.now) _ _ (ap (λ (p : Cursor). p.view) c.requires)
