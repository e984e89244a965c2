-- `b`, the bytes and the end of the line, put one after the other.
use Rattle.window.proofs.Laid.{then}
use Rattle.lines.proofs.put_full_buffer.Goals as goal

pub returns : goal.returns
returns c = then _ _ _ _ _ (then _ _ _ _ _ c.put_all-p.ensures c.put_bytes-p.ensures) c.put_newline.ensures
