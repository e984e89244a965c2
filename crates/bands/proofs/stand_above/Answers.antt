-- `bands::stand_above` meets its contract. Assumes nothing.
use Rattle.std.proofs.Common.{arith}
use Rattle.bands.proofs.Tables.{row_next}
use Rattle.bands.proofs.stand_above.Goals as goal

pub loop-after-preserved : goal.loop-after-preserved
loop-after-preserved c =
    let k = c.in-Some.ensures.lookup.0 in
    rw k.2
    (row_next _ c.loop-after.last c.loop-after.rest.now c.loop-after.invariant k.0 c.get-upper.result c.get-upper.ensures c.stands.result c.stands.ensures c.if-not-stands.false (omega arith))
