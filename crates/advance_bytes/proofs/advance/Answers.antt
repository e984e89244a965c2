-- As many answers are read as there is room for. Assumes nothing.
use Rattle.words.proofs.Turns.{decoded_room}
use Rattle.advance_bytes.proofs.advance.Goals as goal

pub slice_bounds-advance-end : goal.slice_bounds-advance-end
slice_bounds-advance-end c = decoded_room _ _ _ _ _ c.decode_from-n.ensures
