-- Demand 3 holds of the driver's functions: of every call of `begin` and every list of calls of `advance` that came back, by
-- their contracts. `driver_demand_3` is the theorem. Assumes nothing.
use Rattle.std.specs.Prelude.{Result, Ok, Err}
use Prim.Native.Nat.{ℕ}
use mathlib.Core.Path.{◌≡◌, refl, ap, ◌∙◌, subst, subst⁻¹}
use mathlib.Core.List.{List, [], ◌∷◌, map}
use lib.ListN.{length}
use Rattle.calls.proofs.Demand.{demand_3}
use Rattle.calls.proofs.Logic.{both, is_true, is_false}
use Rattle.calls.specs.Advances.{Advance, Meets, refused, Follows, none, but, then}
use Rattle.calls.specs.Demand.{Demand3}
use Rattle.calls.specs.Refusals.{check_of}
use Rattle.calls.specs.Run.{begun_by, begun_of}
use Rattle.calls.specs.declared.Begun.{Begun}
use Rattle.calls.specs.declared.Description.{Description}
use Rattle.calls.specs.declared.SavedCall.{SavedCall}
use Rattle.driver.specs.Demand.{Beginning, Advancing, InTurn, After, DriverDemand3}
use Rattle.driver.proofs.CameBack.{CameBack}
use Rattle.driver.specs.contracts.advance as advance
use Rattle.driver.proofs.advance.Reads as advance-reads
use Rattle.driver.specs.contracts.begin as begin
use Rattle.driver.proofs.begin.Reads as begin-reads
use Rattle.calls.specs.declared.Call.{Call}
use Rattle.calls.specs.declared.Refusal.{Refusal}

-- ---- the list
abbrev advances : List Advancing → List Advance
advances Cs = map (λ (C : Advancing). C.advance) Cs

follows : (d : Description) (ops : List ℕ) (Cs : List Advancing) (s : SavedCall) (b : List ℕ) → InTurn d ops s b Cs →
    Follows d ops (advances Cs) s b
follows d ops [] s b h = none
follows d ops (C ∷ Cs) s b h =
    let meets : Meets C.advance s = subst (Meets C.advance) h.0.saved C.contract in
    both (refused C.advance)
    (λ r. but meets r (follows d ops Cs _ b (rw (is_true (refused C.advance) r) at h.1)))
    (λ a.
    then meets (h.0.description a) (h.0.operations a) (h.0.buffer a) a
    (follows d ops Cs _ _ (rw (is_false (refused C.advance) a) at h.1)))

verdict-is : (d : Description) (ops : List ℕ) (n : ℕ) → (begun_of d ops n).verdict ≡ check_of d ops n
unfolding begun_of
verdict-is d ops n = go (check_of d ops n)
  where
    go : (v : Result Call Refusal) → (begun_by v d ops n).verdict ≡ v
    go (Ok c) = refl
    go (Err r) = refl

-- of any functions that meet the contracts of `begin` and `advance`
pub demand : (B : Beginning) (Cs : List Advancing) → After B Cs → DriverDemand3 B Cs
demand B Cs h =
    let d : Description = B.description in
    let ops : List ℕ = B.operations in
    let b : List ℕ = B.buffer in
    subst⁻¹ (λ (v : Result Call Refusal). Demand3 v d ops b (advances Cs))
    (ap (λ (g : Begun). g.verdict) B.contract ∙ verdict-is d ops (length b))
    (demand_3 d ops b (advances Cs)
    (subst (λ (g : Begun). Follows d ops (advances Cs) g.saved b) B.contract (follows d ops Cs B.begun.saved b h)))

-- ---- the functions. Each argument and each slice as it was left is named in the contract's equation, so none can be taken
-- for another here.
abbrev pub BeginCall : Type 0
BeginCall = CameBack begin.ended begin-reads.Post

abbrev pub AdvanceCall : Type 0
AdvanceCall = CameBack advance.ended advance-reads.Post

abbrev pub beginning : BeginCall → Beginning
beginning C =
    let (d, (ops, (buffer, _))) = C.given in
    record { description = d; operations = ops.now; buffer = buffer.now; begun = C.gave; contract = C.contract }

abbrev pub advancing : AdvanceCall → Advancing
advancing C =
    let (d, (ops, (saved, (buffer, (answers, (log, _)))))) = C.given in
    let (_, (_, (_, (buffer_left, (_, (log_left, _)))))) = C.left in
    record {
      saved = saved;
      advance =
          record {
            words = d;
            operations = ops.now;
            buffer = buffer.now;
            answers = answers.now;
            log = log.now;
            result = C.gave;
            buffer_left = buffer_left.now;
            log_left = log_left.now;
          };
      contract = C.contract;
    }

-- every begin, and every list of advances after it
pub driver_demand_3 : (B : BeginCall) (Cs : List AdvanceCall) → After (beginning B) (map advancing Cs) →
    DriverDemand3 (beginning B) (map advancing Cs)
driver_demand_3 B Cs h = demand (beginning B) (map advancing Cs) h
