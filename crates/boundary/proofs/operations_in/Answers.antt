-- As many operations are read as there is room for. Assumes nothing.
use Rattle.std.proofs.Common.{arith}
use Rattle.words.proofs.Turns.{decoded_room}
use Rattle.boundary.proofs.operations_in.Goals as goal

pub shared_ref_as_front-result : goal.shared_ref_as_front-result
shared_ref_as_front-result c = omega (arith, decoded_room _ _ _ _ _ c.decode-n.ensures, c.decode-n.auto.words, c.told-words)
