-- Demand 3 holds of `in_place`: of every call of `begin` and every list of calls of `advance_in_place` and `advance` that came
-- back, by their contracts. `in_place_demand_3` is the theorem. Assumes nothing.
use mathlib.Core.List.{List, map}
use Rattle.driver.proofs.CameBack.{CameBack}
use Rattle.driver.proofs.Demand.{BeginCall, beginning, demand}
use Rattle.driver.proofs.Demand as driver
use Rattle.driver.specs.Demand.{Advancing, After, DriverDemand3}
use Rattle.in_place.specs.Demand.{AdvancingInPlace, by_value}
use Rattle.in_place.specs.contracts.advance as advance
use Rattle.in_place.proofs.advance.Reads as advance-reads
use Rattle.in_place.specs.contracts.advance_in_place as in_place
use Rattle.in_place.proofs.advance_in_place.Reads as in-place-reads

-- The functions. Each argument and each thing as it was left is named in the contract's equation, so none can be taken for
-- another here.
abbrev pub InPlaceCall : Type 0
InPlaceCall = CameBack in_place.ended in-place-reads.Post

abbrev pub ValueCall : Type 0
ValueCall = CameBack advance.ended advance-reads.Post

abbrev pub in_place_of : InPlaceCall → AdvancingInPlace
in_place_of C =
    let (d, (ops, (saved, (buffer, (answers, (log, _)))))) = C.given in
    let (_, (_, (saved_left, (buffer_left, (_, (log_left, _)))))) = C.left in
    record {
      description = d;
      operations = ops.now;
      saved = saved.now;
      buffer = buffer.now;
      answers = answers.now;
      log = log.now;
      progress = C.gave;
      saved_left = saved_left.now;
      buffer_left = buffer_left.now;
      log_left = log_left.now;
      contract = C.contract;
    }

-- A call of either. The contract of `advance` is that of the driver's to the letter, and so a call of it is one of those.
pub data Called : Type 0 where
  lent : InPlaceCall → Called
  by_value_holds : ValueCall → Called

abbrev pub advancing : Called → Advancing
advancing (lent C) = by_value (in_place_of C)
advancing (by_value_holds C) = driver.advancing C

-- every begin, and every list of either after it
pub in_place_demand_3 : (B : BeginCall) (Cs : List Called) → After (beginning B) (map advancing Cs) →
    DriverDemand3 (beginning B) (map advancing Cs)
in_place_demand_3 B Cs h = demand (beginning B) (map advancing Cs) h
