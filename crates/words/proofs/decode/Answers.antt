-- `words::decode` meets its contract. Assumes nothing.
use Rattle.std.proofs.Common.{arith}
use Rattle.std.proofs.lemmas.List.{length-take}
use Rattle.words.specs.Words.{words_in}
use Rattle.words.proofs.Turns.{in_words, next_decoded, all_decoded}
use Rattle.words.proofs.decode.Goals as goal

pub loop-i-preserved : goal.loop-i-preserved
loop-i-preserved c =
    next_decoded (words_in c.args.bytes.now) _ _ c.loop-i.i _ c.loop-i.invariant (rw in_words (omega (arith, length-take c.min-n.result c.args.words.now))) (omega arith) c.whole.ensures

pub returns : goal.returns
returns c =
    all_decoded c.args.bytes.now c.args.words.now _ c.min-n.result c.loop-i.i c.min-n.ensures (omega (arith, length-take c.min-n.result c.args.words.now)) (omega (arith, length-take c.min-n.result c.args.words.now)) c.loop-i.invariant
