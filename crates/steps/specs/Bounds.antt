-- Serves the proofs of steps: the bounds within which their arithmetic stays. Assumes nothing.
use Rattle.std.specs.Prelude.{◌≤◌, Bool, ◌&&◌, leb}
use Rattle.calls.specs.declared.SavedCall.{SavedCall}
use Rattle.calls.specs.declared.View.{View}

pub record Small (s : SavedCall) : Type 0 where
  pub piece : s.piece ≤ 65535
  pub byte : s.byte ≤ 65536

-- the same as a test, with the size of the piece
abbrev pub small : View → SavedCall → Bool
small v s = leb s.piece 65535 && (leb s.byte 65536 && leb v.size 65535)
