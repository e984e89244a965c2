-- `words::encode` meets its contract. Assumes nothing.
use Rattle.std.proofs.Common.{arith}
use Rattle.words.proofs.Turns.{all_put}
use Rattle.words.proofs.encode.Goals as goal

pub returns : goal.returns
returns c = all_put c.args.words.now c.args.bytes.now c.loop-i.i _ c.loop-i.invariant (omega arith) (omega arith) (omega arith)
