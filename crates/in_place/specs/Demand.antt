-- Demand 3 for an advance whose saved call is lent. A call of it is an advance by value, of which the driver's specs/Demand.antt
-- says what goes from one to the next and what holds of a whole list. Assumes nothing.
use Rattle.std.specs.Prelude.{ℕ, ◌≡◌, List}
use Rattle.calls.specs.Run.{final_of}
use Rattle.calls.specs.declared.Description.{Description}
use Rattle.calls.specs.declared.SavedCall.{SavedCall}
use Rattle.driver.specs.Demand.{Advancing}
use Rattle.in_place.specs.InPlace.{as_advanced, in_place}
use Rattle.in_place.specs.declared.Progress.{Progress}

-- A call of `advance_in_place` that came back: what it was lent, what it said, the saved call, the buffer and the log as it
-- left them, and what its contract says of that.
pub record AdvancingInPlace : Type 0 where
  pub description : Description
  pub operations : List ℕ
  pub saved : SavedCall
  pub buffer : List ℕ
  pub answers : List ℕ
  pub log : List ℕ
  pub progress : Progress
  pub saved_left : SavedCall
  pub buffer_left : List ℕ
  pub log_left : List ℕ
  pub contract : in_place progress saved_left buffer_left log_left ≡ final_of description operations saved buffer answers log

-- The advance by value that it is: it returns what was said, with the saved call as it was left.
abbrev pub by_value : AdvancingInPlace → Advancing
by_value C =
    record {
      saved = C.saved;
      advance =
          record {
            words = C.description;
            operations = C.operations;
            buffer = C.buffer;
            answers = C.answers;
            log = C.log;
            result = as_advanced C.progress C.saved_left;
            buffer_left = C.buffer_left;
            log_left = C.log_left;
          };
      contract = C.contract;
    }
