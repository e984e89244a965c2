-- The digits of a bit fit, and a bit is put after the ones above it.
use Rattle.std.proofs.Common.{rules, arith, ap}
use Rattle.page.specs.Put.{as_put, below, bits_put}
use Rattle.page.proofs.Putting.{digits_fit, bits_shown, next_bit}
use Rattle.page.proofs.line.Line.put_bits.Goals as goal

pub put_if-line-requires : goal.put_if-line-requires
put_if-line-requires c = search (rules, digits_fit)

pub loop-bit-preserved : goal.loop-bit-preserved
loop-bit-preserved c = search (rules, next_bit)

pub returns : goal.returns
unfolding bits_put
returns c = ap (below c.args.low) (bits_shown c.args.value c.args.low c.loop-bit.bit (as_put c.loop-bit.line c.loop-bit.out) _ c.loop-bit.invariant (omega arith))
