-- A space and the digits, put one after the other.
use Rattle.window.proofs.Laid.{then}
use Rattle.lines.proofs.put_number_field.Goals as goal

pub returns : goal.returns
returns c = then _ _ _ _ _ c.put_space-p.ensures c.put_decimal.ensures
