-- Serves the proofs across bytes: numbers that 32 bits and bytes hold (document 01: a word is 32 bits unsigned), of a saved call, of a call that runs, and of
-- what one advance comes to. Assumes nothing.
use Rattle.std.specs.Prelude.{ℕ, ◌<◌, List, T}
use Rattle.calls.specs.Calls.{Request}
use Rattle.calls.specs.Outcomes.{outcome_value}
use Rattle.calls.specs.Refusals.{accepts}
use Rattle.calls.specs.Run.{words_of, Run}
use Rattle.calls.specs.declared.SavedCall.{SavedCall}
use Rattle.words.specs.Words.{Below}

-- each number of a saved call is a word
pub record OfWords (s : SavedCall) : Type 0 where
  pub call : s.call < 4294967296
  pub piece : s.piece < 4294967296
  pub byte : s.byte < 4294967296
  pub out : s.out < 4294967296
  pub word : s.word < 4294967296
  pub accesses : s.accesses < 4294967296
  pub value : outcome_value s.outcome < 4294967296

-- row 13 takes the saved call s of the request q, its numbers are words, and the buffer's are bytes
pub record InRange (q : Request) (s : SavedCall) (b : List ℕ) : Type 0 where
  pub accepted : T (accepts q s)
  pub of_words : OfWords s
  pub bytes : Below 256 b

-- so it is after the advance R, and the entries that R made are words
pub record RunInRange (q : Request) (R : Run) : Type 0 where
  pub after : InRange q R.saved R.buffer
  pub entries : Below 4294967296 (words_of R.entries)
