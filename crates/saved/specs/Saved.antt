-- The saved call as bytes: its words, little-endian, one after the other. Assumes nothing.
use Rattle.std.specs.Prelude.{ℕ, ◌+◌, ◌*◌, Bool, true, false, cond, ◌&&◌, List, [], ◌∷◌, eqb, length, Option, Some, None}
use Rattle.calls.specs.Outcomes.{outcome_number, outcome_value}
use Rattle.calls.specs.Run.{no_call}
use Rattle.calls.specs.Steps.{modify_number, modifies, step_number, steps}
use Rattle.calls.specs.declared.Modify.{Modify}
use Rattle.calls.specs.declared.Outcome.{Outcome}
use Rattle.calls.specs.declared.Outcome.TheVariants.{Done, Bus, Arbitration, Nack, Stopped, ExpectedWrite, ExpectedRead, EventRead, EventWrite, EventStop}
use Rattle.calls.specs.declared.SavedCall.{SavedCall}
use Rattle.calls.specs.declared.Step.{Step}
use Rattle.words.specs.Words.{word_at, bytes_of}

-- ---- The modify of a number, and the step of one
abbrev pub modify_in : List Modify → ℕ → Option Modify
modify_in [] n = None
modify_in (m ∷ ms) n = cond (eqb n (modify_number m)) (Some m) (modify_in ms n)

unfoldable pub modify_at : ℕ → Option Modify
modify_at n = modify_in modifies n

abbrev pub step_in : List Step → ℕ → Option Step
step_in [] n = None
step_in (t ∷ ts) n = cond (eqb n (step_number t)) (Some t) (step_in ts n)

unfoldable pub step_at : ℕ → Option Step
step_at n = step_in steps n

-- ---- The outcome of a number and a value. One that comes with nothing has the value 0.
abbrev pub outcomes : ℕ → List Outcome
outcomes v =
    Done v ∷ Bus ∷ Arbitration ∷ Nack ∷ Stopped ∷ ExpectedWrite ∷ ExpectedRead ∷ EventRead v ∷ EventWrite v ∷ EventStop ∷ []

abbrev pub outcome_in : List Outcome → ℕ → ℕ → Option Outcome
outcome_in [] n v = None
outcome_in (o ∷ os) n v = cond (eqb n (outcome_number o)) (cond (eqb v (outcome_value o)) (Some o) None) (outcome_in os n v)

unfoldable pub outcome_at : ℕ → ℕ → Option Outcome
outcome_at n v = outcome_in (outcomes v) n v

-- ---- The words of a saved call, and which word is which: each place follows the one before it
abbrev pub call_place : ℕ
call_place = 0

abbrev pub piece_place : ℕ
piece_place = call_place + 1

abbrev pub byte_place : ℕ
byte_place = piece_place + 1

abbrev pub word_place : ℕ
word_place = byte_place + 1

abbrev pub accesses_place : ℕ
accesses_place = word_place + 1

abbrev pub outcome_place : ℕ
outcome_place = accesses_place + 1

abbrev pub value_place : ℕ
value_place = outcome_place + 1

abbrev pub step_place : ℕ
step_place = value_place + 1

abbrev pub out_place : ℕ
out_place = step_place + 1

abbrev pub saved_words : SavedCall → List ℕ
saved_words s =
    s.call
    ∷ s.piece
    ∷ s.byte
    ∷ s.word
    ∷ s.accesses
    ∷ outcome_number s.outcome
    ∷ outcome_value s.outcome
    ∷ step_number s.step
    ∷ s.out
    ∷ []

-- how many they are, and their length in bytes
abbrev pub saved_count : ℕ
saved_count = length (saved_words no_call)

abbrev pub saved_length : ℕ
saved_length = 4 * saved_count

unfoldable pub saved_bytes : SavedCall → List ℕ
saved_bytes s = bytes_of (saved_words s)

-- what a slice holds once s is written to it: one of another length is left as it is
unfoldable pub written_to : List ℕ → SavedCall → List ℕ
written_to bytes s = cond (eqb (length bytes) saved_length) (saved_bytes s) bytes

-- ---- The saved call of bytes. Bytes of another length, without such an outcome or without such a step are none; they are
-- read as what a refused begin hands out, which no advance takes.
abbrev pub is_step : Option Step → Bool
is_step (Some t) = true
is_step None = false

abbrev pub is_outcome : Option Outcome → Bool
is_outcome (Some o) = true
is_outcome None = false

abbrev pub step_of : List ℕ → Option Step
step_of bytes = step_at (word_at bytes step_place)

abbrev pub outcome_of : List ℕ → Option Outcome
outcome_of bytes = outcome_at (word_at bytes outcome_place) (word_at bytes value_place)

unfoldable pub is_saved : List ℕ → Bool
is_saved bytes = eqb (length bytes) saved_length && (is_step (step_of bytes) && is_outcome (outcome_of bytes))

abbrev pub saved_as : List ℕ → Step → Outcome → SavedCall
saved_as bytes t o =
    record {
      call = word_at bytes call_place;
      piece = word_at bytes piece_place;
      byte = word_at bytes byte_place;
      out = word_at bytes out_place;
      word = word_at bytes word_place;
      accesses = word_at bytes accesses_place;
      outcome = o;
      step = t;
    }

abbrev pub saved_with : List ℕ → Option Step → Option Outcome → SavedCall
saved_with bytes (Some t) (Some o) = saved_as bytes t o
saved_with bytes (Some t) None = no_call
saved_with bytes None o = no_call

unfoldable pub saved_in : List ℕ → SavedCall
saved_in bytes = cond (eqb (length bytes) saved_length) (saved_with bytes (step_of bytes) (outcome_of bytes)) no_call
