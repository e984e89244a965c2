-- Document 02, R-1: the pieces of a list are document 01's for the list already cut. Here is that list, worked out of the
-- words alone, and what is promised of pieces and runs. Assumes nothing.
use Rattle.std.specs.Prelude.{ℕ, zero, suc, ◌+◌, ◌-◌, ◌≤◌, ◌<◌, ◌≢◌, ◌≡◌, Bool, cond, List, [], ◌∷◌, ◌++◌, map, T, leb, length}
use Rattle.fields.specs.Field.{flag_of}
use Rattle.calls.specs.Calls.{Request, transaction}
use Rattle.calls.specs.Outcomes.{refusal_number}
use Rattle.calls.specs.Pieces.{Piece, operation_read, piece_of, piece_at, cut_of, pieces_of}
use Rattle.calls.specs.Refusals.{length_of, total, request_of, accepts}
use Rattle.calls.specs.Run.{uncut_of}
use Rattle.calls.specs.Steps.{begin_of}
use Rattle.calls.specs.declared.Refusal.{Refusal}
use Rattle.calls.specs.declared.SavedCall.{SavedCall}

-- document 01's word of an operation of n bytes, n below 65,536
abbrev pub word_of : Bool → ℕ → ℕ
word_of reads n = n + cond reads 65536 0

-- the lengths of the pieces of n bytes: 255, as long as more than 255 are left; `fuel` is at least n
abbrev pub lengths : ℕ → ℕ → List ℕ
lengths zero n = n ∷ []
lengths (suc fuel) n = cond (leb n 255) (n ∷ []) (255 ∷ lengths fuel (n - 255))

abbrev pub words_cut : ℕ → List ℕ
words_cut o = map (word_of (flag_of o operation_read)) (lengths (length_of o) (length_of o))

abbrev pub already_cut : List ℕ → List ℕ
already_cut [] = []
already_cut (o ∷ os) = words_cut o ++ already_cut os

-- the same call, with its list already cut
abbrev pub cut_request : Request → Request
cut_request q = request_of q.call q.words (already_cut q.operations) q.size

-- ---- What is promised

abbrev pub sizes : List Piece → ℕ
sizes [] = 0
sizes (p ∷ ps) = p.size + sizes ps

-- of the pieces of one operation: they go its way and make up its bytes; all but the last have 255, the last 1 to 255, but
-- for the one of an operation of no byte
pub record Cuts (o : ℕ) : Type 0 where
  pub some : 1 ≤ length (cut_of (piece_of o))
  pub sum : sizes (cut_of (piece_of o)) ≡ length_of o
  pub reads : (i : ℕ) → i < length (cut_of (piece_of o)) → (piece_at (cut_of (piece_of o)) i).reads ≡ flag_of o operation_read
  pub full : (i : ℕ) → i + 1 < length (cut_of (piece_of o)) → (piece_at (cut_of (piece_of o)) i).size ≡ 255
  pub at_most : (i : ℕ) → (piece_at (cut_of (piece_of o)) i).size ≤ 255
  pub at_least : length_of o ≢ 0 → (i : ℕ) → i < length (cut_of (piece_of o)) → 1 ≤ (piece_at (cut_of (piece_of o)) i).size

-- of a transaction: its pieces are document 01's for the cut list, which document 01 takes (no operation is over 255 bytes,
-- the sum is the same); so begin, each run, from any saved call, and row 13 are those of the cut list; a list that document
-- 01 takes as it is has the pieces that it had
pub record AsCut (q : Request) : Type 0 where
  pub pieces : pieces_of q ≡ map piece_of (already_cut q.operations)
  pub short : (i : ℕ) → (piece_at (pieces_of q) i).size ≤ 255
  pub sum : total (already_cut q.operations) ≡ total q.operations
  pub begin : begin_of q ≡ begin_of (cut_request q)
  pub run : (k : ℕ) (s : SavedCall) (b l : List ℕ) → uncut_of q k s b l ≡ uncut_of (cut_request q) k s b l
  pub as_before : ((i : ℕ) → (piece_at (map piece_of q.operations) i).size ≤ 255) → pieces_of q ≡ map piece_of q.operations
  pub row_13 : (s : SavedCall) → accepts q s ≡ accepts (cut_request q) s

-- and no refusal has the number 9
abbrev pub NoNine : Type 0
NoNine = (r : Refusal) → refusal_number r ≢ 9

-- the whole of R-1's definition
pub record LongCards : Type 0 where
  pub cuts : (o : ℕ) → Cuts o
  pub as_cut : (q : Request) → T (transaction q.call) → AsCut q
  pub no_nine : NoNine
