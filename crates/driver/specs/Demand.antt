-- Demand 3 for the driver's functions: a call of `begin`, a list of calls of `advance` after it, and what holds of them all
-- together (document 01, "A call, from its entry"). Assumes nothing.
use Rattle.std.specs.Prelude.{ℕ, ◌≡◌, cond, not, List, [], ◌∷◌, map, T, length}
use Rattle.calls.specs.Advances.{Advance, Meets, refused}
use Rattle.calls.specs.Demand.{Demand3}
use Rattle.calls.specs.Run.{begun_of}
use Rattle.calls.specs.declared.Begun.{Begun}
use Rattle.calls.specs.declared.Description.{Description}
use Rattle.calls.specs.declared.SavedCall.{SavedCall}

-- ---- Calls that came back: what each was lent, what it returned and left, and what its contract says of that.

pub record Beginning : Type 0 where
  pub description : Description
  pub operations : List ℕ
  pub buffer : List ℕ
  pub begun : Begun
  pub contract : begun ≡ begun_of description operations (length buffer)

-- an advance, and the saved call that it was handed
pub record Advancing : Type 0 where
  pub saved : SavedCall
  pub advance : Advance
  pub contract : Meets advance saved

-- ---- What goes from one advance to the next (same section: demand 3 is one statement on the whole list of advances). Each is
-- handed the saved call as the last one left it. An accepted one is lent the begun description d, the begun operations ops, and
-- the buffer b as the last accepted one left it; a refused one may be lent any others.
pub record Handed (d : Description) (ops : List ℕ) (s : SavedCall) (b : List ℕ) (C : Advancing) : Type 0 where
  pub saved : C.saved ≡ s
  pub description : T (not (refused C.advance)) → C.advance.words ≡ d
  pub operations : T (not (refused C.advance)) → C.advance.operations ≡ ops
  pub buffer : T (not (refused C.advance)) → C.advance.buffer ≡ b

abbrev pub InTurn : Description → List ℕ → SavedCall → List ℕ → List Advancing → Type 0
InTurn d ops s b [] = Unit {0}
InTurn d ops s b (C ∷ Cs) =
    Handed d ops s b C
    × InTurn d ops C.advance.result.saved (cond (refused C.advance) b C.advance.buffer_left) Cs

-- the advances Cs after the begin B
abbrev pub After : Beginning → List Advancing → Type 0
After B Cs = InTurn B.description B.operations B.begun.saved B.buffer Cs

-- ---- Then demand 3 whole holds of them: after an accepted begin they are one uncut run, after a refused one nothing was done.
abbrev pub DriverDemand3 : Beginning → List Advancing → Type 0
DriverDemand3 B Cs =
    Demand3 B.begun.verdict B.description B.operations B.buffer (map (λ (C : Advancing). C.advance) Cs)
