-- The next piece lies where the operations say, any other is looked up. Assumes nothing.
use native.Mathlib.Omega.{arith}
use Prim.Native.Nat.{◌+◌}
use mathlib.Core.Path.{◌≡◌, refl}
use mathlib.Core.Bool.{Bool, true, false, ◌&&◌}
use lib.Dec.{eqb, eqb→eq}
use Rattle.kinds.proofs.Branch.{told, holds}
use Rattle.driver.proofs.Pieces.{fit_of, few_operations, cursor_small, cursor-is, after_at}
use Rattle.driver.proofs.Positions.{position_at, position_operation}
use Rattle.driver.proofs.request.Request.cursor_after.Goals as goal

-- both parts of the test hold
both : (a : Bool) {b : Bool} → (a && b) ≡ true → (a ≡ true) × (b ≡ true)
both true h = (refl, h)
both false h = cc

pub position_after-requires : goal.position_after-requires
position_after-requires c =
    cursor_small _ _ _ (fit_of c.args.self.now) (told c.is_transaction.ensures (both (eqb c.args.j (c.args.i + 1)) c.if-j-i-2.true).1) _ _ c.requires.i_bound.0 c.requires.p_value

pub list_cursor-requires : goal.list_cursor-requires
list_cursor-requires c =
    let list = told c.is_transaction.ensures (both (eqb c.args.j (c.args.i + 1)) c.if-j-i-2.true).1 in
    let next = after_at _ _ _ list _ _ _ c.requires.p_value (eqb→eq c.args.j (c.args.i + 1) (holds (both (eqb c.args.j (c.args.i + 1)) c.if-j-i-2.true).0)) in
    rw (c.position_after.ensures, next) (
      few_operations _ _ _ (fit_of c.args.self.now) list,
      omega (arith, c.requires.i_bound, position_operation c.args.self.now.operations.now c.args.j),
      position_at c.args.self.now.operations.now c.args.j,
    )

pub returns-then-j-i-2 : goal.returns-then-j-i-2
returns-then-j-i-2 c =
    let list = told c.is_transaction.ensures (both (eqb c.args.j (c.args.i + 1)) c.if-j-i-2.true).1 in
    let next = after_at _ _ _ list _ _ _ c.requires.p_value (eqb→eq c.args.j (c.args.i + 1) (holds (both (eqb c.args.j (c.args.i + 1)) c.if-j-i-2.true).0)) in
    rw (c.list_cursor.ensures, c.position_after.ensures, next) (cursor-is _ _ _ list c.args.j)
