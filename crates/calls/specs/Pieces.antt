-- The pieces of a call: those of a transaction's operations, the blocks of a target transfer. Each is a run of the buffer's
-- bytes that goes one way. Assumes nothing.
use Rattle.std.specs.Prelude.{ℕ, zero, suc, ◌+◌, ◌-◌, min, Bool, false, cond, not, ◌&&◌, ◌||◌, List, [], ◌∷◌, ◌++◌, eqb, ltb, leb, length, get_or}
use Rattle.std.specs.Bool.{beq}
use Rattle.fields.specs.Field.{Place, place, bit, get_of, flag_of}
use Rattle.calls.specs.Calls.{Request, transaction, manual, manual_write, receives, transmits}
use Rattle.calls.specs.declared.Call.{Call}
use Rattle.calls.specs.declared.SavedCall.{SavedCall}
use Rattle.calls.specs.declared.View.{View}

pub record Piece : Type 0 where
  pub size : ℕ
  pub reads : Bool

-- An operation is a word: its length in bits 0 to 15, bit 16 for a read.
abbrev pub operation_length : Place
operation_length = place 0 16

abbrev pub operation_read : Place
operation_read = bit 16

abbrev pub piece_of : ℕ → Piece
piece_of o = record { size = get_of o operation_length; reads = flag_of o operation_read }

-- n bytes in blocks of 255 and a last one of 1 to 255; `fuel` is at least n
abbrev pub blocks_of : Bool → ℕ → ℕ → List Piece
blocks_of w zero n = []
blocks_of w (suc fuel) zero = []
blocks_of w (suc fuel) (suc n) = record { size = min 255 (suc n); reads = w } ∷ blocks_of w fuel (suc n - 255)

-- An operation goes in blocks too, since NBYTES holds no more (document 02, R-1); one of no byte is an empty piece.
abbrev pub cut_of : Piece → List Piece
cut_of p = cond (eqb p.size 0) (p ∷ []) (blocks_of p.reads p.size p.size)

abbrev pub list_pieces : List ℕ → List Piece
list_pieces [] = []
list_pieces (o ∷ os) = cut_of (piece_of o) ++ list_pieces os

-- An AutoAck transfer is one piece, a ManualAck transfer goes in blocks; other calls have none.
abbrev pub transfer_pieces : Call → ℕ → List Piece
transfer_pieces c n =
    cond (receives c || transmits c)
    (cond (manual c) (blocks_of (receives c) n n) (record { size = n; reads = receives c } ∷ []))
    []

unfoldable pub pieces_for : Call → List ℕ → ℕ → List Piece
pieces_for c ops n = cond (transaction c) (list_pieces ops) (transfer_pieces c n)

abbrev pub pieces_of : Request → List Piece
pieces_of q = pieces_for q.call q.operations q.size

abbrev pub piece_at : List Piece → ℕ → Piece
piece_at ps i = get_or ps i (record { size = 0; reads = false })

-- the place in the buffer of piece i, where the pieces start at `at`
abbrev pub start_from : ℕ → List Piece → ℕ → ℕ
start_from at [] i = at
start_from at (p ∷ ps) zero = at
start_from at (p ∷ ps) (suc i) = start_from (at + p.size) ps i

-- What a step sees of the pieces, at piece i: its place in the buffer, its length and direction, whether it is the last,
-- whether the next one goes the same way and whether the one before it did, and whether there is any piece at all. With it comes the
-- most that the call counts as put out.
abbrev pub view_at : List Piece → ℕ → ℕ → View
view_at ps most i =
    record {
      start = start_from 0 ps i;
      size = (piece_at ps i).size;
      most = most;
      reads = (piece_at ps i).reads;
      last = leb (length ps) (i + 1);
      same = beq (piece_at ps i).reads (piece_at ps (i + 1)).reads;
      reload = not (eqb i 0) && beq (piece_at ps i).reads (piece_at ps (i - 1)).reads;
      nonempty = ltb 0 (length ps);
    }

-- A manual write carries the number of bytes that it has put out, held at the buffer's length + 1 (document 02, R-6). No other call
-- counts any.
abbrev pub most_for : Call → ℕ → ℕ
most_for c n = cond (manual_write c) (n + 1) 0

abbrev pub most_of : Request → ℕ
most_of q = most_for q.call q.size

abbrev pub view_of : Request → SavedCall → View
view_of q s = view_at (pieces_of q) (most_of q) s.piece

-- A byte is there: one of the buffer's or, past the last byte that a target puts out, a filling zero.
abbrev pub byte_there : Call → View → SavedCall → Bool
byte_there c v s = ltb s.byte v.size || (transmits c && v.last)
