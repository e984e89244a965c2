-- A transaction's cursor comes of where the piece lies, a transfer's of its number.
use native.Mathlib.Omega.{arith}
use Rattle.kinds.proofs.Branch.{told}
use Rattle.driver.proofs.Pieces.{fit_of, few_operations, small_total, cursor-is, transfer_cursor}
use Rattle.driver.proofs.Positions.{position_at, position_operation}
use Rattle.driver.proofs.request.Request.cursor_at.Goals as goal

pub position_at-requires : goal.position_at-requires
position_at-requires c = (small_total _ _ _ (fit_of c.args.self.now) (told c.is_transaction.ensures c.if-is_transaction.true), c.requires)

pub list_cursor-requires : goal.list_cursor-requires
list_cursor-requires c =
    rw c.position_at.ensures (
      few_operations _ _ _ (fit_of c.args.self.now) (told c.is_transaction.ensures c.if-is_transaction.true),
      omega (arith, position_operation c.args.self.now.operations.now c.args.i),
      position_at c.args.self.now.operations.now c.args.i,
    )

pub returns-then-is_transaction : goal.returns-then-is_transaction
returns-then-is_transaction c =
    rw (c.list_cursor.ensures, c.position_at.ensures)
    (cursor-is c.args.self.now.call c.args.self.now.operations.now c.args.self.now.size (told c.is_transaction.ensures c.if-is_transaction.true) c.args.i)

pub returns : goal.returns
returns c = transfer_cursor _ _ _ (told c.is_transaction.ensures c.if-is_transaction.false) _ _ c.transfer_view.ensures
