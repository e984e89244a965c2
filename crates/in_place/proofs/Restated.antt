-- What the contracts of the two functions and their demand 3 say, again and in other words. Nothing rests on this file: it is
-- proved so that a contract or a statement that loses a part is noticed. Assumes nothing.
use Rattle.std.specs.Prelude.{Result, Ok, Err}
use Prim.Native.Nat.{ℕ, ◌/◌, ◌≤◌}
use mathlib.Core.Path.{◌≡◌, refl, sym, ap, ◌∙◌, subst}
use mathlib.Core.Bool.{not}
use mathlib.Core.List.{List, [], ◌∷◌, map}
use lib.Dec.{T, T_not}
use lib.ListN.{length}
use Rattle.calls.proofs.Cut.{refusal_stops}
use Rattle.calls.proofs.Joined.{within}
use Rattle.calls.proofs.Logic.{is_true, is_false}
use Rattle.calls.specs.Advances.{Advance, is_refusal, refused, NoRun}
use Rattle.calls.specs.Demand.{Demand3, Kept}
use Rattle.calls.specs.Refusals.{request_of, check_of}
use Rattle.calls.specs.Run.{Final, run_of}
use Rattle.calls.specs.declared.Call.{Call}
use Rattle.calls.specs.declared.Description.{Description}
use Rattle.calls.specs.declared.Refusal.{Refusal}
use Rattle.calls.specs.declared.SavedCall.{SavedCall}
use Rattle.driver.proofs.Demand.{BeginCall, beginning, AdvanceCall}
use Rattle.driver.proofs.Demand as driver
use Rattle.driver.specs.Demand.{Advancing, InTurn}
use Rattle.in_place.specs.Demand.{AdvancingInPlace}
use Rattle.in_place.proofs.Demand.{InPlaceCall, in_place_of, ValueCall, Called, lent, by_value_holds, advancing, in_place_demand_3}

-- ---- one call, in its own terms

-- lent what a call of the driver's advance was lent, it says, leaves and saves the same
record LentTheSame (A D : Advancing) : Type 0 where
  description : A.advance.words ≡ D.advance.words
  operations : A.advance.operations ≡ D.advance.operations
  saved : A.saved ≡ D.saved
  buffer : A.advance.buffer ≡ D.advance.buffer
  answers : A.advance.answers ≡ D.advance.answers
  log : A.advance.log ≡ D.advance.log

same_final : (A D : Advancing) → LentTheSame A D →
    ◌≡◌ {A = Final} (record { advanced = A.advance.result; buffer = A.advance.buffer_left; log = A.advance.log_left })
    (record { advanced = D.advance.result; buffer = D.advance.buffer_left; log = D.advance.log_left })
same_final A D l = A.contract ∙ rw (l.description, l.operations, l.saved, l.buffer, l.answers, l.log) (sym D.contract)

module _ (P : InPlaceCall) where
  abbrev in_place : AdvancingInPlace
  in_place = in_place_of P

  as_by_value : (D : AdvanceCall) → LentTheSame (advancing (lent P)) (driver.advancing D) →
      (P.gave.used ≡ D.gave.used) × (P.gave.written ≡ D.gave.written) × (P.gave.report ≡ D.gave.report)
      × (in_place.saved_left ≡ D.gave.saved) × (in_place.buffer_left ≡ (driver.advancing D).advance.buffer_left)
      × (in_place.log_left ≡ (driver.advancing D).advance.log_left)
  as_by_value D l =
      let e = same_final (advancing (lent P)) (driver.advancing D) l in (
        ap (λ (F : Final). F.advanced.used) e,
        ap (λ (F : Final). F.advanced.written) e,
        ap (λ (F : Final). F.advanced.report) e,
        ap (λ (F : Final). F.advanced.saved) e,
        ap (λ (F : Final). F.buffer) e,
        ap (λ (F : Final). F.log) e,
      )

  -- refused it uses nothing, writes nothing, and leaves saved call, buffer and log as they were lent
  refused_leaves_all : T (is_refusal P.gave.report) →
      (P.gave.used ≡ 0) × (P.gave.written ≡ 0) × (in_place.saved_left ≡ in_place.saved)
      × (in_place.buffer_left ≡ in_place.buffer) × (in_place.log_left ≡ in_place.log)
  unfolding run_of
  refused_leaves_all h =
      let f = in_place.contract in
      let z = refusal_stops (check_of in_place.description in_place.operations (length in_place.buffer)) in_place.description
      in_place.operations (length in_place.log / 2) in_place.saved in_place.buffer in_place.answers
      (rw (ap (λ (F : Final). F.advanced.report) f) at h) in (
        ap (λ (F : Final). F.advanced.used) f ∙ z.used,
        ap (λ (F : Final). F.advanced.written) f ∙ ap length z.entries,
        ap (λ (F : Final). F.advanced.saved) f ∙ z.saved,
        ap (λ (F : Final). F.buffer) f ∙ z.buffer,
        ap (λ (F : Final). F.log) f ∙ rw z.entries,
      )

  -- and always stays within what it was lent
  stays_within : (P.gave.written ≤ length in_place.log / 2) × (P.gave.used ≤ length in_place.answers)
      × (length in_place.buffer_left ≡ length in_place.buffer)
  stays_within =
      let f = in_place.contract in
      let w = within in_place.description in_place.operations (length in_place.log / 2) in_place.saved in_place.buffer in_place.answers in (
        rw (ap (λ (F : Final). F.advanced.written) f) w.entries,
        rw (ap (λ (F : Final). F.advanced.used) f) w.used,
        ap (λ (F : Final). length F.buffer) f ∙ w.buffer,
      )

-- the one with plain parameters returns what the driver's returns
same_by_value : (Q : ValueCall) (D : AdvanceCall) → LentTheSame (advancing (by_value_holds Q)) (driver.advancing D) →
    (Q.gave ≡ D.gave) × ((advancing (by_value_holds Q)).advance.buffer_left ≡ (driver.advancing D).advance.buffer_left)
    × ((advancing (by_value_holds Q)).advance.log_left ≡ (driver.advancing D).advance.log_left)
same_by_value Q D l =
    let e = same_final (advancing (by_value_holds Q)) (driver.advancing D) l in
    (ap (λ (F : Final). F.advanced) e, ap (λ (F : Final). F.buffer) e, ap (λ (F : Final). F.log) e)

-- ---- demand 3, of lists that are linked one by one
abbrev saved_of : Called → SavedCall
saved_of (lent P) = (in_place_of P).saved
saved_of (by_value_holds Q) = (advancing (by_value_holds Q)).saved

-- the saved call as the call left it, in place or returned
abbrev saved_left : Called → SavedCall
saved_left (lent P) = (in_place_of P).saved_left
saved_left (by_value_holds Q) = Q.gave.saved

abbrev advance : Called → Advance
advance C = (advancing C).advance

data Linked (d : Description) (ops : List ℕ) : List Called → SavedCall → List ℕ → Type 0 where
  end : {s : SavedCall} {b : List ℕ} → Linked d ops [] s b
  apart : {C : Called} {Cs : List Called} {s : SavedCall} {b : List ℕ} →
      saved_of C ≡ s → T (refused (advance C)) → Linked d ops Cs (saved_left C) b → Linked d ops (C ∷ Cs) s b
  on : {C : Called} {Cs : List Called} {s : SavedCall} {b : List ℕ} →
      saved_of C ≡ s → (advance C).words ≡ d → (advance C).operations ≡ ops → (advance C).buffer ≡ b → T (not (refused (advance C))) →
      Linked d ops Cs (saved_left C) (advance C).buffer_left → Linked d ops (C ∷ Cs) s b

same_saved : (C : Called) → (advancing C).saved ≡ saved_of C
same_saved (lent P) = refl
same_saved (by_value_holds Q) = refl

same_left : (C : Called) → (advance C).result.saved ≡ saved_left C
same_left (lent P) = refl
same_left (by_value_holds Q) = refl

in_turn : (d : Description) (ops : List ℕ) (Cs : List Called) (s : SavedCall) (b : List ℕ) → Linked d ops Cs s b → InTurn d ops s b (map advancing Cs)
in_turn d ops [] s b end = tt
in_turn d ops (C ∷ Cs) s b (apart e r l) = (
  record {
    saved = same_saved C ∙ e;
    description = λ n. absurd (T_not (refused (advance C)) n r);
    operations = λ n. absurd (T_not (refused (advance C)) n r);
    buffer = λ n. absurd (T_not (refused (advance C)) n r);
  },
  rw (is_true (refused (advance C)) r, same_left C) (in_turn d ops Cs (saved_left C) b l),
)
in_turn d ops (C ∷ Cs) s b (on e f g h n l) = (
  record { saved = same_saved C ∙ e; description = λ _. f; operations = λ _. g; buffer = λ _. h },
  rw (is_false (refused (advance C)) n, same_left C) (in_turn d ops Cs (saved_left C) (advance C).buffer_left l),
)

-- the advances by value that the calls are
abbrev advances : List Called → List Advance
advances Cs = map (λ (A : Advancing). A.advance) (map advancing Cs)

module _ (B : BeginCall) (Cs : List Called)
    (l : Linked (beginning B).description (beginning B).operations Cs B.gave.saved (beginning B).buffer) where
  demand : (v : Result Call Refusal) → B.gave.verdict ≡ v → Demand3 v (beginning B).description (beginning B).operations (beginning B).buffer (advances Cs)
  demand v e =
      subst (λ (v : Result Call Refusal). Demand3 v (beginning B).description (beginning B).operations (beginning B).buffer (advances Cs)) e
      (in_place_demand_3 B Cs (in_turn _ _ Cs _ _ l))

  -- after an accepted begin they are one uncut run, with all that demand 3 says of its log, its bytes, its count and its accesses
  one_run : (c : Call) → B.gave.verdict ≡ Ok c →
      Kept (request_of c (beginning B).description (beginning B).operations (length (beginning B).buffer)) (beginning B).buffer (advances Cs)
  one_run c e = demand (Ok c) e

  -- after a refused one all are refused, and nothing was done
  no_run : (r : Refusal) → B.gave.verdict ≡ Err r → NoRun (beginning B).buffer (advances Cs)
  no_run r e = demand (Err r) e
