-- Serves the proofs of a view and of row 13: parts of them in the numbers that the code has at hand. Assumes nothing.
use Rattle.std.specs.Prelude.{ℕ, suc, ◌+◌, ◌-◌, ◌*◌, ◌/◌, min, max, Bool, cond, not, ◌&&◌, ◌||◌, List, [], ◌∷◌, eqb, ltb, leb, length, get_or, Option, Some, None, Result, Ok, Err}
use Rattle.std.specs.Bool.{beq}
use Rattle.calls.specs.Calls.{Request, call_number, transaction, manual_write}
use Rattle.calls.specs.Pieces.{Piece, piece_of, pieces_for, most_for, view_at, byte_there}
use Rattle.calls.specs.Refusals.{length_of, takes, request_of, accepts}
use Rattle.calls.specs.Steps.{same_step}
use Rattle.calls.specs.declared.Call.{Call}
use Rattle.calls.specs.declared.Description.{Description}
use Rattle.calls.specs.declared.Refusal.{Refusal}
use Rattle.calls.specs.declared.Refusal.TheVariants.{SavedCall as BadSavedCall}
use Rattle.calls.specs.declared.SavedCall.{SavedCall}
use Rattle.calls.specs.declared.Step.TheVariants.{Ended, Byte}
use Rattle.calls.specs.declared.View.{View}
use Rattle.driver.specs.declared.view.Cursor.{Cursor}
use Rattle.driver.specs.declared.view.Position.{Position}

-- a word of a list, if it is there
abbrev pub word_of : List ℕ → ℕ → Option ℕ
word_of l i = cond (ltb i (length l)) (Some (get_or l i 0)) None

-- ---- Where piece i of a list lies

-- how many pieces an operation has
abbrev pub pieces_in : ℕ → ℕ
pieces_in o = max 1 ((length_of o + 254) / 255)

abbrev pub position : ℕ → ℕ → ℕ → Position
position k at start = record { operation = k; at = at; start = start }

-- with the operation o before the others
abbrev pub past : ℕ → Position → Position
past o t = position (suc t.operation) t.at (length_of o + t.start)

-- past the last operation each piece has an empty one to itself
abbrev pub position_of : List ℕ → ℕ → Position
position_of [] i = position i 0 0
position_of (o ∷ os) i = cond (ltb i (pieces_in o)) (position 0 (255 * i) (255 * i)) (past o (position_of os (i - pieces_in o)))

abbrev pub op_at : List ℕ → ℕ → Piece
op_at ops k = piece_of (get_or ops k 0)

-- its operation has more than 255 bytes from there on
abbrev pub goes_on : List ℕ → ℕ → ℕ → Bool
goes_on ops k at = ltb (at + 255) (op_at ops k).size

-- the view from there
abbrev pub view_from : List ℕ → Position → View
view_from ops t =
    record {
      start = t.start;
      size = min 255 ((op_at ops t.operation).size - t.at);
      most = 0;
      reads = (op_at ops t.operation).reads;
      last = not (goes_on ops t.operation t.at) && leb (length ops) (t.operation + 1);
      same = goes_on ops t.operation t.at || beq (op_at ops t.operation).reads (op_at ops (t.operation + 1)).reads;
      reload =
          ltb 0 t.at
          || (not (eqb t.operation 0) && beq (op_at ops t.operation).reads (op_at ops (t.operation - 1)).reads);
      nonempty = ltb 0 (length ops);
    }

abbrev pub cursor_by : List ℕ → Position → Cursor
cursor_by ops t = record { view = view_from ops t; operation = t.operation; at = t.at }

-- the next piece: in the same operation, or at the start of the one after it
abbrev pub position_after : List ℕ → Cursor → Position
position_after ops p =
    cond (goes_on ops p.operation p.at)
    (position p.operation (p.at + 255) (p.view.start + p.view.size))
    (position (p.operation + 1) 0 (p.view.start + p.view.size))

abbrev pub cursor_at : Call → List ℕ → ℕ → ℕ → Cursor
cursor_at c ops n i =
    record {
      view = view_at (pieces_for c ops n) (most_for c n) i;
      operation = cond (transaction c) (position_of ops i).operation 0;
      at = cond (transaction c) (position_of ops i).at 0;
    }

-- ---- Row 13 in two steps: a step of this call, then a piece that is there, a byte number that a run reaches in it, and a number of bytes
-- put out that the call counts to
abbrev pub belongs : Request → SavedCall → Bool
belongs q s =
    eqb s.call (call_number q.call) && (same_step s.step Ended || (takes q s.step && leb s.piece 65535))

abbrev pub at_byte : Call → View → SavedCall → Bool
at_byte c v s =
    leb s.byte (v.size + 1) && ((not (same_step s.step Byte) || byte_there c v s) && (not (manual_write c) || leb s.out v.most))

abbrev pub stands_in : Call → List ℕ → ℕ → SavedCall → Bool
stands_in c ops n s = ltb s.piece (max 1 (length (pieces_for c ops n))) && at_byte c (view_at (pieces_for c ops n) (most_for c n) s.piece) s

-- where a saved call stands that row 13 takes: at a piece, or at none if it has ended
abbrev pub standing : Call → Description → List ℕ → ℕ → SavedCall → Result (Option Cursor) Refusal
standing c d ops n s =
    cond (accepts (request_of c d ops n) s)
    (Ok (cond (same_step s.step Ended) None (Some (cursor_at c ops n s.piece))))
    (Err BadSavedCall)
