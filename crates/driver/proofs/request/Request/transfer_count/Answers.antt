-- How many blocks a buffer has.
use mathlib.Core.Path.{refl}
use Rattle.kinds.proofs.Branch.{told}
use Rattle.driver.proofs.Transfers.{count-is}
use Rattle.driver.proofs.request.Request.transfer_count.Goals as goal

pub returns-then-is_manual : goal.returns-then-is_manual
returns-then-is_manual c =
    rw (count-is, told c.moves_bytes.ensures c.if-moves_bytes.true, told c.is_manual.ensures c.if-is_manual.true)
    refl
