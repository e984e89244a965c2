-- The worked list of advances of the crate `calls`, as calls of the driver's functions: there are calls such as demand 3 of the driver
-- speaks of. Any advance that meets the definition is one that a call of `advance` may make. Assumes nothing.
use Prim.Native.Nat.{ℕ}
use mathlib.Core.Path.{◌≡◌, refl}
use mathlib.Core.List.{List, [], ◌∷◌, map}
use lib.Dec.{T_not}
use lib.ListN.{length}
use denote.Ref.{Bor}
use denote.MutBor.{MutBor}
use Rattle.calls.proofs.Logic.{is_true, is_false}
use Rattle.calls.proofs.Worked.{d, ops, b, worked}
use Rattle.calls.specs.Advances.{Advance, Meets, refused, Follows, none, but, then}
use Rattle.calls.specs.Run.{begun_of}
use Rattle.calls.specs.declared.Description.{Description}
use Rattle.calls.specs.declared.SavedCall.{SavedCall}
use Rattle.driver.specs.Demand.{Advancing, InTurn, After}
use Rattle.driver.proofs.Demand.{BeginCall, AdvanceCall, beginning, advancing}

-- a lent slice; where it lies does not matter
abbrev lent : List ℕ → Bor (List ℕ)
lent l = record { ref_ptr = (0, 0); now = l }

abbrev lent_mut : List ℕ → MutBor (List ℕ)
lent_mut l = record { ref_ptr = (0, 0); ghost_name = 0; now = l }

abbrev begin_call : Description → List ℕ → List ℕ → BeginCall
begin_call d ops b =
    record {
      lifetimes = ([], ([], tt));
      given = (d, (lent ops, (lent b, tt)));
      gave = begun_of d ops (length b);
      left = (d, (lent ops, (lent b, tt)));
      contract = refl;
    }

abbrev advance_call : (A : Advance) (s : SavedCall) → Meets A s → AdvanceCall
advance_call A s m =
    record {
      lifetimes = ([], ([], ([], ([], tt))));
      given = (A.words, (lent A.operations, (s, (lent_mut A.buffer, (lent A.answers, (lent_mut A.log, tt))))));
      gave = A.result;
      left = (A.words, (lent A.operations, (s, (lent_mut A.buffer_left, (lent A.answers, (lent_mut A.log_left, tt))))));
      contract = m;
    }

-- the calls of a list of advances
record Called (d : Description) (ops : List ℕ) (As : List Advance) (s : SavedCall) (b : List ℕ) : Type 0 where
  calls : List AdvanceCall
  are : map (λ (C : Advancing). C.advance) (map advancing calls) ≡ As
  in_turn : InTurn d ops s b (map advancing calls)

called : {d : Description} {ops : List ℕ} {As : List Advance} {s : SavedCall} {b : List ℕ} → Follows d ops As s b → Called d ops As s b
called none = record { calls = []; are = refl; in_turn = tt }
called (but {A = A} {s = s} m r f) =
    let k = called f in
    record {
      calls = advance_call A s m ∷ k.calls;
      are = λ i. A ∷ k.are i;
      in_turn = (
        record {
          saved = refl;
          description = λ n. absurd (T_not (refused A) n r);
          operations = λ n. absurd (T_not (refused A) n r);
          buffer = λ n. absurd (T_not (refused A) n r);
        },
        rw (is_true (refused A) r) k.in_turn,
      );
    }
called (then {A = A} {s = s} m w o x n f) =
    let k = called f in
    record {
      calls = advance_call A s m ∷ k.calls;
      are = λ i. A ∷ k.are i;
      in_turn =
          (record { saved = refl; description = λ _. w; operations = λ _. o; buffer = λ _. x }, rw (is_false (refused A) n) k.in_turn);
    }

-- document 01's run of call 7, begun, cut, refused twice, cut again and ended
worked_calls : After (beginning (begin_call d ops b)) (map advancing (called worked).calls)
worked_calls = (called worked).in_turn
