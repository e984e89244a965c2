-- What is promised of a call's bytes (document 01, "A call, from its entry" and "Target side"): which bytes are the
-- caller's, where those that come in go, and what `done` counts. Assumes nothing.
use Rattle.std.specs.Prelude.{ℕ, zero, suc, ◌+◌, ◌-◌, ◌≤◌, min, ◌≡◌, Bool, true, false, cond, not, List, [], ◌∷◌, ◌++◌, T, eqb, length, get_or, take, drop, replicate}
use Rattle.std.specs.Bool.{beq}
use Rattle.calls.specs.Calls.{Request, transaction, manual, receives, transmits, manual_write}
use Rattle.calls.specs.Pieces.{Piece, pieces_of}
use Rattle.calls.specs.Refusals.{any_of}
use Rattle.calls.specs.Run.{Uncut, put_out, taken_in}
use Rattle.calls.specs.declared.Outcome.{Outcome}
use Rattle.calls.specs.declared.Outcome.TheVariants.{Done}
use Rattle.calls.specs.declared.Step.TheVariants.{Ended}

-- the run has ended so
pub record EndedAs (o : Outcome) (U : Uncut) : Type 0 where
  pub ended : U.saved.step ≡ Ended
  pub outcome : U.saved.outcome ≡ o

-- ---- Places of the buffer

-- n places from `at` on
abbrev pub range : ℕ → ℕ → List ℕ
range at zero = []
range at (suc n) = at ∷ range (at + 1) n

-- the places of the pieces that read (w is true), or of those that do not; the first piece starts at `at`
abbrev pub places_from : Bool → ℕ → List Piece → List ℕ
places_from w at [] = []
places_from w at (p ∷ ps) = cond (beq p.reads w) (range at p.size) [] ++ places_from w (at + p.size) ps

-- what stands at the places ks
abbrev pub bytes_at : List ℕ → List ℕ → List ℕ
bytes_at b [] = []
bytes_at b (k ∷ ks) = get_or b k 0 ∷ bytes_at b ks

-- ---- Bytes out (section "A call, from its entry"). A transaction's caller gives the bytes of its write operations, a
-- target's caller in 10, 12, 26 and 28 the whole buffer, and only there zeros may follow.
abbrev pub caller_bytes : Request → List ℕ → List ℕ
caller_bytes q b = cond (transaction q.call) (bytes_at b (places_from false 0 (pieces_of q))) (cond (transmits q.call) b [])

pub record BytesOut (q : Request) (b : List ℕ) (U : Uncut) : Type 0 where
  -- put out are the first n of the caller's bytes, then zeros
  pub in_order :
      let n : ℕ = length (put_out U.log) in
      put_out U.log ≡ take n (caller_bytes q b) ++ replicate (n - length (caller_bytes q b)) 0
  -- zeros only by 10, 12, 26 and 28; so every call without caller's bytes puts out nothing
  pub no_zeros : T (not (transmits q.call)) → length (put_out U.log) ≤ length (caller_bytes q b)
  -- all of them when a transaction is done
  pub done : T (transaction q.call) → (n : ℕ) → EndedAs (Done n) U → put_out U.log ≡ caller_bytes q b

-- ---- Bytes in (same section). Received bytes go, in order, to a transaction's read operations, or to the whole buffer of
-- 9, 11, 25 and 27, and nothing else of the buffer is touched.
abbrev pub read_places : Request → List ℕ
read_places q = cond (transaction q.call) (places_from true 0 (pieces_of q)) (cond (receives q.call) (range 0 q.size) [])

pub record BytesIn (q : Request) (b : List ℕ) (U : Uncut) : Type 0 where
  -- the read places hold what came in, then what stood there
  pub in_order :
      bytes_at U.buffer (read_places q)
      ≡ taken_in U.log ++ drop (length (taken_in U.log)) (bytes_at b (read_places q))
  pub others : (i : ℕ) → T (not (any_of (eqb i) (read_places q))) → get_or U.buffer i 0 ≡ get_or b i 0
  pub same_length : length U.buffer ≡ length b
  -- all are filled when a transaction is done
  pub done : T (transaction q.call) → (n : ℕ) → EndedAs (Done n) U → bytes_at U.buffer (read_places q) ≡ taken_in U.log

-- ---- Counts (section "Target side", and document 02, R-6). The byte that a NACK finds in TXDR was not sent: one less counts than
-- was put out in the whole call, filling zeros too, but no less than none and no more than the buffer has.

-- what `done` with the count n says of a target transfer
pub record Count (q : Request) (b : List ℕ) (U : Uncut) (n : ℕ) : Type 0 where
  pub received : T (receives q.call) → n ≡ length (taken_in U.log)
  pub transmitted : T (transmits q.call) → n ≡ min (length (put_out U.log) - 1) (length b)

-- what the saved call carries of it at any time: a manual write as a number of its own, which is 0 in every other call, an automatic
-- one as the byte number of its one piece
pub record Carried (q : Request) (b : List ℕ) (U : Uncut) : Type 0 where
  pub manual_write_holds : T (manual_write q.call) → U.saved.out ≡ min (length (put_out U.log)) (length b + 1)
  pub automatic : T (transmits q.call) → T (not (manual q.call)) → U.saved.byte ≡ min (length (put_out U.log)) (length b + 1)
  pub none : T (not (manual_write q.call)) → U.saved.out ≡ 0
