-- `words::decode_from` meets its contract. Assumes nothing.
use Rattle.std.proofs.Common.{◌*◌, arith}
use Rattle.words.proofs.Turns.{rest, some_from}
use Rattle.words.proofs.decode_from.Goals as goal

pub returns : goal.returns
returns c = some_from c.args.bytes.now c.args.i c.args.words.now _ _ _ (omega arith) (rest c.args.bytes.now (4 * c.args.i)) c.decode.ensures
