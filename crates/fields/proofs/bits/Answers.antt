-- `fields::bits` meets its contract: a mask is a remainder. Assumes nothing.
use lib.Bits.{and_mask}
use Rattle.fields.specs.Field.{bits_at}
use Rattle.fields.proofs.bits.Goals as goal

pub returns : goal.returns
unfolding bits_at
returns c = rw (c.mask.ensures, and_mask)
