-- What was put from the first byte on is what the window shows.
use Rattle.window.proofs.Laid.{windowed}
use Rattle.benchfile.proofs.buffer.lay.Goals as goal

pub returns : goal.returns
returns c = windowed 0 _ _ _ (rw c.new.ensures at c.put_buffer.ensures)
