-- What the contracts of `begin`, `advance` and `next_access` give a caller, and demand 3 of the driver, once more, fact by fact. A contract or a
-- theorem that loses a fact, and its proof with it, fails here. Assumes nothing.
use Rattle.std.specs.Prelude.{Result, Ok, Err}
use Prim.Native.Nat.{ℕ, zero, suc, ◌*◌, ◌/◌}
use mathlib.Core.Path.{◌≡◌, refl, ap, ◌∙◌, subst}
use mathlib.Core.Bool.{not}
use mathlib.Core.List.{List, [], ◌∷◌, ◌++◌, map}
use lib.Dec.{T, T_not}
use lib.ListN.{length, drop}
use contract.Lifetimes.{Lfts}
use borrow.Fn.World
use Rattle.registers.specs.declared.Register.{Register}
use Rattle.registers.specs.declared.Register.TheVariants.{Rxdr}
use Rattle.calls.proofs.Along.{no_access}
use Rattle.calls.proofs.Cut.{two_each, runs}
use Rattle.calls.proofs.Logic.{is_true, is_false}
use Rattle.calls.proofs.Plain.{Refuses, LeftAlone, Defined, is_refused, not_refused}
use Rattle.calls.specs.Advances.{Advance, refused, NoRun}
use Rattle.calls.specs.Calls.{Request}
use Rattle.calls.specs.Demand.{Kept, Demand3}
use Rattle.calls.specs.Refusals.{request_of, check_of, accepts}
use Rattle.calls.specs.Run.{words_of, begun_by, begun_of, Run, stops, advance_from, run_of, Final}
use Rattle.calls.specs.Steps.{access_of, begin_of, same_step}
use Rattle.calls.specs.declared.Access.TheVariants as access
use Rattle.calls.specs.declared.Begun.{Begun}
use Rattle.calls.specs.declared.Call.{Call}
use Rattle.calls.specs.declared.Description.{Description}
use Rattle.calls.specs.declared.Next.TheVariants as next
use Rattle.calls.specs.declared.Refusal.{Refusal}
use Rattle.calls.specs.declared.Refusal.TheVariants.{SavedCall as BadSavedCall}
use Rattle.calls.specs.declared.Report.{Report}
use Rattle.calls.specs.declared.Report.TheVariants.{Over, Refused}
use Rattle.calls.specs.declared.SavedCall.{SavedCall}
use Rattle.calls.specs.declared.Step.TheVariants.{Ended}
use Rattle.driver.specs.Demand.{Advancing, InTurn}
use Rattle.driver.proofs.CameBack.{CameBack}
use Rattle.driver.proofs.Demand.{BeginCall, AdvanceCall, advancing, driver_demand_3}
use Rattle.driver.specs.contracts.advance as advance
use Rattle.driver.proofs.advance.Reads as advance-reads
use Rattle.driver.specs.contracts.begin as begin
use Rattle.driver.proofs.begin.Reads as begin-reads
use Rattle.driver.specs.contracts.next_access as next-access
use Rattle.driver.proofs.next_access.Reads as next-access-reads

-- ---- No function asks anything of its caller.

begin_asks_nothing : (κs : Lfts 2) (a : borrow.Fn.World.ArgsD begin.signature κs) → begin-reads.Asked κs a
begin_asks_nothing κs a = tt

advance_asks_nothing : (κs : Lfts 4) (a : borrow.Fn.World.ArgsD advance.signature κs) → advance-reads.Asked κs a
advance_asks_nothing κs a = tt

next_access_asks_nothing : (κs : Lfts 2) (a : borrow.Fn.World.ArgsD next-access.signature κs) → next-access-reads.Asked κs a
next_access_asks_nothing κs a = tt

-- ---- A begin that came back: the verdict is that of the description; an accepted call stands at its beginning, a refused one has number 0.

module _ (B : BeginCall) where
  abbrev d : Description
  d = B.given.0

  abbrev ops : List ℕ
  ops = B.given.1.0.now

  abbrev b : List ℕ
  b = B.given.1.1.0.now

  begun : (v : Result Call Refusal) → check_of d ops (length b) ≡ v → B.gave ≡ begun_by v d ops (length b)
  unfolding begun_of
  begun v e = B.contract ∙ rw e

  pub begin_accepted : (c : Call) → check_of d ops (length b) ≡ Ok c →
      (B.gave.verdict ≡ Ok c) × (B.gave.saved ≡ begin_of (request_of c d ops (length b)))
  begin_accepted c e = (ap (λ (g : Begun). g.verdict) (begun (Ok c) e), ap (λ (g : Begun). g.saved) (begun (Ok c) e))

  pub begin_refused : (r : Refusal) → check_of d ops (length b) ≡ Err r → (B.gave.verdict ≡ Err r) × (B.gave.saved.call ≡ 0)
  begin_refused r e = (ap (λ (g : Begun). g.verdict) (begun (Err r) e), ap (λ (g : Begun). g.saved.call) (begun (Err r) e))

-- ---- An advance that came back.

-- it reported r, and left everything alone
abbrev Idle : Advance → SavedCall → Report → Type 0
Idle A s r = (A.result.report ≡ r) × LeftAlone A s

idle : (A : Advance) (s : SavedCall) (r : Report) → Defined A s →
    run_of A.words A.operations (length A.log / 2) s A.buffer A.answers ≡ stops r s A.buffer → Idle A s r
idle A s r h e =
    let a = h.0 ∙ ap (λ (R : Run). record { used = R.used; written = length R.entries; saved = R.saved; report = R.report }) e in (
      ap (λ x. x.report) a,
      (
        ap (λ x. x.used) a,
        ap (λ x. x.written) a,
        ap (λ x. x.saved) a,
        h.1 ∙ ap (λ (R : Run). R.buffer) e,
        h.2 ∙ ap (λ (R : Run). words_of R.entries ++ drop (2 * length R.entries) A.log) e,
      ),
    )

over_again : (q : Request) (n : ℕ) (s : SavedCall) (b l : List ℕ) → T (same_step s.step Ended) → advance_from q n s b l ≡ stops (Over s.outcome) s b
unfolding advance_from
over_again q zero s b l e = rw (is_true (same_step s.step Ended) e)
over_again q (suc n) s b l e = rw (no_access q b s e)

-- what it was lent, what it returned, and the slices as it left them
abbrev as_advance : AdvanceCall → Advance
as_advance C =
    record {
      words = C.given.0;
      operations = C.given.1.0.now;
      buffer = C.given.1.1.1.0.now;
      answers = C.given.1.1.1.1.0.now;
      log = C.given.1.1.1.1.1.0.now;
      result = C.gave;
      buffer_left = C.left.1.1.1.0.now;
      log_left = C.left.1.1.1.1.1.0.now;
    }

abbrev saved_in : AdvanceCall → SavedCall
saved_in C = C.given.1.1.0

module _ (C : AdvanceCall) where
  abbrev A : Advance
  A = as_advance C

  abbrev s : SavedCall
  s = saved_in C

  -- counts, saved call, report and buffer are the definition's, and so is every word of the log
  pub advance_defined : Defined A s
  advance_defined = (
    ap (λ (F : Final). F.advanced) C.contract,
    ap (λ (F : Final). F.buffer) C.contract,
    ap (λ (F : Final). F.log) C.contract
        ∙ ap (λ (n : ℕ). words_of R.entries ++ drop n A.log) (two_each R.entries),
  )
    where
      R : Run
      R = run_of A.words A.operations (length A.log / 2) s A.buffer A.answers

  -- a description that begin refuses is refused as begin refuses it
  pub advance_refused : (r : Refusal) → check_of A.words A.operations (length A.buffer) ≡ Err r → Idle A s (Refused r)
  unfolding run_of
  advance_refused r e = idle A s (Refused r) advance_defined (rw e)

  -- a saved call that row 13 does not accept is refused as 13
  module _ (c : Call) (accepted : check_of A.words A.operations (length A.buffer) ≡ Ok c) where
    abbrev q : Request
    q = request_of c A.words A.operations (length A.buffer)

    pub advance_refused_13 : T (not (accepts q s)) → Idle A s (Refused BadSavedCall)
    unfolding run_of
    advance_refused_13 n = idle A s (Refused BadSavedCall) advance_defined (rw (accepted, is_false (accepts q s) n))

    -- a call that has ended gives its outcome again
    pub advance_over : T (accepts q s) → s.step ≡ Ended → Idle A s (Over s.outcome)
    advance_over h e =
        idle A s (Over s.outcome) advance_defined
        (runs c A.words A.operations (length A.log / 2) s A.buffer A.answers accepted h
        ∙ over_again q (length A.log / 2) s A.buffer A.answers (rw e tt))

-- ---- A call of `next_access` that came back.

abbrev NextCall : Type 0
NextCall = CameBack next-access.ended next-access-reads.Post

module _ (N : NextCall) where
  abbrev words : Description
  words = N.given.0

  abbrev operations : List ℕ
  operations = N.given.1.0.now

  abbrev saved : SavedCall
  saved = N.given.1.1.0

  abbrev buffer : List ℕ
  buffer = N.given.1.1.1.0.now

  -- it is refused as an advance is
  pub next_refused : (r : Refusal) → check_of words operations (length buffer) ≡ Err r → N.gave ≡ next.Refused r
  next_refused r e = N.contract ∙ rw e

  module _ (c : Call) (accepted : check_of words operations (length buffer) ≡ Ok c) where
    abbrev asked : Request
    asked = request_of c words operations (length buffer)

    pub next_refused_13 : T (not (accepts asked saved)) → N.gave ≡ next.Refused BadSavedCall
    next_refused_13 n = N.contract ∙ rw (accepted, is_false (accepts asked saved) n)

    -- else it tells the register of the access that the next advance makes, read or written, or that there is none
    module _ (h : T (accepts asked saved)) where
      pub next_read : (r : Register) → access_of asked buffer saved ≡ access.Read r → N.gave ≡ next.Read r
      next_read r e = N.contract ∙ rw (accepted, is_true (accepts asked saved) h, e)

      pub next_byte : (i : ℕ) → access_of asked buffer saved ≡ access.Take i → N.gave ≡ next.Read Rxdr
      next_byte i e = N.contract ∙ rw (accepted, is_true (accepts asked saved) h, e)

      pub next_write : (r : Register) (w : ℕ) → access_of asked buffer saved ≡ access.Write r w → N.gave ≡ next.Write r
      next_write r w e = N.contract ∙ rw (accepted, is_true (accepts asked saved) h, e)

      pub next_over : access_of asked buffer saved ≡ access.Nothing → N.gave ≡ next.Over
      next_over e = N.contract ∙ rw (accepted, is_true (accepts asked saved) h, e)

-- ---- Demand 3 of the driver. Calls of `advance`, each handed the saved call that the last one returned: an accepted one lent the begun
-- description and operations, and the buffer as the last accepted one left it, a refused one anything.

pub data Calls (d : Description) (ops : List ℕ) : List AdvanceCall → SavedCall → List ℕ → Type 0 where
  none : {s : SavedCall} {b : List ℕ} → Calls d ops [] s b
  aside : {C : AdvanceCall} {Cs : List AdvanceCall} {s : SavedCall} {b : List ℕ} →
      saved_in C ≡ s → Refuses (as_advance C) → Calls d ops Cs C.gave.saved b → Calls d ops (C ∷ Cs) s b
  along : {C : AdvanceCall} {Cs : List AdvanceCall} {s : SavedCall} {b : List ℕ} →
      saved_in C ≡ s → C.given.0 ≡ d → C.given.1.0.now ≡ ops → C.given.1.1.1.0.now ≡ b → ¬ Refuses (as_advance C) →
      Calls d ops Cs C.gave.saved C.left.1.1.1.0.now → Calls d ops (C ∷ Cs) s b

in_turn : {d : Description} {ops : List ℕ} {Cs : List AdvanceCall} {s : SavedCall} {b : List ℕ} →
    Calls d ops Cs s b → InTurn d ops s b (map advancing Cs)
in_turn none = tt
in_turn (aside {C = C} e h l) =
    let r : T (refused (as_advance C)) = is_refused (as_advance C) h in (
      record {
        saved = e;
        description = λ n. absurd (T_not (refused (as_advance C)) n r);
        operations = λ n. absurd (T_not (refused (as_advance C)) n r);
        buffer = λ n. absurd (T_not (refused (as_advance C)) n r);
      },
      rw (is_true (refused (as_advance C)) r) (in_turn l),
    )
in_turn (along {C = C} e w o x n l) = (
  record { saved = e; description = λ _. w; operations = λ _. o; buffer = λ _. x },
  rw (is_false (refused (as_advance C)) (not_refused (as_advance C) n)) (in_turn l),
)

same_advances : (Cs : List AdvanceCall) → map (λ (C : Advancing). C.advance) (map advancing Cs) ≡ map as_advance Cs
same_advances [] = refl
same_advances (C ∷ Cs) = ap {B = List Advance} (λ As. as_advance C ∷ As) (same_advances Cs)

module _ (B : BeginCall) (Cs : List AdvanceCall) (calls : Calls B.given.0 B.given.1.0.now Cs B.gave.saved B.given.1.1.0.now) where
  demand : Demand3 B.gave.verdict B.given.0 B.given.1.0.now B.given.1.1.0.now (map as_advance Cs)
  demand =
      subst (Demand3 B.gave.verdict B.given.0 B.given.1.0.now B.given.1.1.0.now) (same_advances Cs)
      (driver_demand_3 B Cs (in_turn calls))

  -- an accepted begin: all that demand 3 says holds of them
  pub calls_kept : (c : Call) → B.gave.verdict ≡ Ok c →
      Kept (request_of c B.given.0 B.given.1.0.now (length B.given.1.1.0.now)) B.given.1.1.0.now (map as_advance Cs)
  calls_kept c e =
      subst (λ (v : Result Call Refusal). Demand3 v B.given.0 B.given.1.0.now B.given.1.1.0.now (map as_advance Cs)) e demand

  -- a refused one: all are refused, and nothing is done
  pub calls_refused : (r : Refusal) → B.gave.verdict ≡ Err r → NoRun B.given.1.1.0.now (map as_advance Cs)
  calls_refused r e =
      subst (λ (v : Result Call Refusal). Demand3 v B.given.0 B.given.1.0.now B.given.1.1.0.now (map as_advance Cs)) e demand
