-- Demand 3 holds across the C boundary: of every call of `huskerivory_begin` and every list of calls of `huskerivory_advance`
-- that came back, by their contracts. `boundary_demand_3` is the theorem. Assumes nothing.
use Rattle.std.specs.Prelude.{Result, Ok, Err}
use Prim.Native.Nat.{ℕ, ◌*◌, ◌/◌, ◌<◌}
use native.Mathlib.Omega.{arith}
use mathlib.Core.Path.{◌≡◌, refl, sym, ap, ◌∙◌, subst}
use mathlib.Core.Bool.{cond, not}
use mathlib.Core.List.{List, [], ◌∷◌, ◌++◌, map}
use lib.Dec.{T, T_not, eqb, eqb→eq, lit<}
use lib.ListN.{length, take, drop}
use lib.Seq.{take_at, drop_at}
use borrow.Author.Tests.{eq-eqb}
use Rattle.words.proofs.Turns.{in_words}
use Rattle.calls.proofs.Accepted.{accepted_begin}
use Rattle.calls.proofs.Cut.{part, runs, Stopped, refusal_stops, refuses, no_run, two_each}
use Rattle.calls.proofs.Demand.{demand_3}
use Rattle.calls.proofs.Fit.{accepted_number}
use Rattle.calls.proofs.Joined.{within}
use Rattle.calls.proofs.Logic.{both, is_true, is_false}
use Rattle.calls.specs.Advances.{Advance, Meets, is_refusal, Follows, none, but, then}
use Rattle.calls.specs.Advances as advances
use Rattle.calls.specs.Calls.{Request}
use Rattle.calls.specs.Demand.{Demand3}
use Rattle.registers.specs.declared.Register.TheVariants.{Cr1, Cr2, Oar1, Oar2, Timingr, Isr, Icr, Rxdr, Txdr}
use Rattle.calls.specs.Outcomes.{refused_number, refusal_number, report_number, report_value, awaited_of}
use Rattle.calls.specs.Refusals.{request_of, check_of, accepts}
use Rattle.calls.specs.Run.{Entry, words_of, no_call, begun_by, begun_of, Run, advance_from, run_of, final_by}
use Rattle.calls.specs.Steps.{begin_of}
use Rattle.calls.specs.declared.Call.{Call}
use Rattle.calls.specs.declared.Description.{Description}
use Rattle.calls.specs.declared.Outcome.TheVariants.{Done, Bus, Arbitration, Nack, Stopped as WasStopped, ExpectedWrite, ExpectedRead, EventRead, EventWrite, EventStop}
use Rattle.calls.specs.declared.Refusal.{Refusal}
use Rattle.calls.specs.declared.Refusal.TheVariants.{Address, List as BadList, Buffer, NoSuchCall, SavedCall as BadSavedCall}
use Rattle.calls.specs.declared.Report.{Report}
use Rattle.calls.specs.declared.Report.TheVariants.{Over, Full, Waiting, Refused}
use Rattle.calls.specs.declared.SavedCall.{SavedCall}
use Rattle.driver.proofs.CameBack.{CameBack}
use Rattle.saved.proofs.Round.{read_written}
use Rattle.saved.proofs.Words.{accepted_small, begin_words, run_in_range}
use Rattle.saved.specs.Range.{OfWords, RunInRange}
use Rattle.saved.specs.Saved.{saved_length, saved_words, saved_bytes, saved_in, written_to}
use Rattle.words.proofs.Round.{words_before, bytes_make_words}
use Rattle.words.proofs.Turns.{length_bytes, words_drop}
use Rattle.words.specs.Words.{Below, words_in, bytes_of}
use Rattle.boundary.specs.Calls.{description_of, operations_in, verdict_number, BeginLeft, answer_for, log_after, AdvanceLeft}
use Rattle.boundary.specs.Demand.{BoundaryBegin, BoundaryAdvance, says_refused, answer_in, answer_of, BytesInTurn, BytesAfter, report_in, as_advance, ReadExactly, AllReadExactly, BoundaryDemand3}
use Rattle.boundary.specs.contracts.huskerivory_advance as advance
use Rattle.boundary.proofs.huskerivory_advance.Reads as advance-reads
use Rattle.boundary.specs.contracts.huskerivory_begin as begin
use Rattle.boundary.proofs.huskerivory_begin.Reads as begin-reads

abbrev word : ℕ
word = 4294967296

-- ---- a report is read from its numbers
record ReadBack (r : Report) : Type 0 where
  report : (used written : ℕ) → report_in (report_number r) (answer_for r used written) ≡ r
  refusal : eqb (report_number r) refused_number ≡ is_refusal r

read_back : (r : Report) → ReadBack r
read_back (Over (Done n)) = record { report = λ u w. refl; refusal = refl }
read_back (Over Bus) = record { report = λ u w. refl; refusal = refl }
read_back (Over Arbitration) = record { report = λ u w. refl; refusal = refl }
read_back (Over Nack) = record { report = λ u w. refl; refusal = refl }
read_back (Over WasStopped) = record { report = λ u w. refl; refusal = refl }
read_back (Over ExpectedWrite) = record { report = λ u w. refl; refusal = refl }
read_back (Over ExpectedRead) = record { report = λ u w. refl; refusal = refl }
read_back (Over (EventRead n)) = record { report = λ u w. refl; refusal = refl }
read_back (Over (EventWrite n)) = record { report = λ u w. refl; refusal = refl }
read_back (Over EventStop) = record { report = λ u w. refl; refusal = refl }
read_back Full = record { report = λ u w. refl; refusal = refl }
read_back (Waiting Cr1) = record { report = λ u w. refl; refusal = refl }
read_back (Waiting Cr2) = record { report = λ u w. refl; refusal = refl }
read_back (Waiting Oar1) = record { report = λ u w. refl; refusal = refl }
read_back (Waiting Oar2) = record { report = λ u w. refl; refusal = refl }
read_back (Waiting Timingr) = record { report = λ u w. refl; refusal = refl }
read_back (Waiting Isr) = record { report = λ u w. refl; refusal = refl }
read_back (Waiting Icr) = record { report = λ u w. refl; refusal = refl }
read_back (Waiting Rxdr) = record { report = λ u w. refl; refusal = refl }
read_back (Waiting Txdr) = record { report = λ u w. refl; refusal = refl }
read_back (Refused Address) = record { report = λ u w. refl; refusal = refl }
read_back (Refused BadList) = record { report = λ u w. refl; refusal = refl }
read_back (Refused Buffer) = record { report = λ u w. refl; refusal = refl }
read_back (Refused NoSuchCall) = record { report = λ u w. refl; refusal = refl }
read_back (Refused BadSavedCall) = record { report = λ u w. refl; refusal = refl }

-- ---- what the contract says of one advance

abbrev pub run_in : BoundaryAdvance → Run
run_in C =
    run_of (description_of C.description) (operations_in C.operations) (length C.log / 8) (saved_in C.saved) C.buffer
    (words_in C.answers)

pub record Said (C : BoundaryAdvance) (R : Run) : Type 0 where
  pub number : C.report ≡ report_number R.report
  pub value : (answer_of C).value ≡ report_value R.report
  pub awaited : (answer_of C).awaited ≡ awaited_of R.report
  pub report : report_in C.report (answer_of C) ≡ R.report
  pub refusal : says_refused C ≡ is_refusal R.report
  pub used : (answer_of C).used ≡ R.used
  pub written : (answer_of C).written ≡ length R.entries
  pub saved : C.saved_left ≡ cond (says_refused C) C.saved (written_to C.saved R.saved)
  pub buffer : C.buffer_left ≡ R.buffer
  pub log : C.log_left ≡ log_after R.entries C.log

pub said : (C : BoundaryAdvance) → Said C (run_in C)
said C =
    let R : Run = run_in C in
    let number : C.report ≡ report_number R.report = ap (λ (F : AdvanceLeft). F.report) C.contract in
    let value : (answer_of C).value ≡ report_value R.report = ap (λ (F : AdvanceLeft). (answer_in F.answer).value) C.contract in
    let awaited : (answer_of C).awaited ≡ awaited_of R.report = ap (λ (F : AdvanceLeft). (answer_in F.answer).awaited) C.contract in
    let refusal : says_refused C ≡ is_refusal R.report = rw number (read_back R.report).refusal in
    record {
      number = number;
      value = value;
      awaited = awaited;
      report = ap (λ (F : AdvanceLeft). report_in F.report (answer_in F.answer)) C.contract ∙ (read_back R.report).report R.used (length R.entries);
      refusal = refusal;
      used = ap (λ (F : AdvanceLeft). (answer_in F.answer).used) C.contract;
      written = ap (λ (F : AdvanceLeft). (answer_in F.answer).written) C.contract;
      saved = rw refusal (ap (λ (F : AdvanceLeft). F.saved) C.contract);
      buffer = ap (λ (F : AdvanceLeft). F.buffer) C.contract;
      log = ap (λ (F : AdvanceLeft). F.log) C.contract;
    }

module _ (C : BoundaryAdvance) where
  abbrev R : Run
  R = run_in C

  pub same_refusal : advances.refused (as_advance C) ≡ says_refused C
  same_refusal = ap is_refusal (said C).report ∙ sym (said C).refusal

  refused_as : T (says_refused C) → T (advances.refused (as_advance C))
  refused_as h = rw same_refusal h

  accepted_as : T (not (says_refused C)) → T (not (advances.refused (as_advance C)))
  accepted_as h = rw same_refusal h

  -- Nothing is lost where the saved call is read as the run's, and the entries' numbers are words.
  record Exact : Type 0 where
    saved : saved_in C.saved_left ≡ R.saved
    saved_bytes_holds : T (not (says_refused C)) → C.saved_left ≡ saved_bytes (saved_in C.saved_left)
    entries : Below word (words_of R.entries)

  eight_each : 8 * length R.entries ≡ 4 * length (words_of R.entries)
  eight_each = (let t = two_each R.entries in omega arith)

  log_words : Exact → words_in C.log_left ≡ words_of R.entries ++ drop (length (words_of R.entries)) (words_in C.log)
  log_words x =
      let ws : List ℕ = words_of R.entries in
      let i = (within (description_of C.description) (operations_in C.operations) (length C.log / 8) (saved_in C.saved) C.buffer
      (words_in C.answers)).entries in
      let f = eight_each in
      rw ((said C).log, words_before ws (drop (8 * length R.entries) C.log) x.entries, f, words_drop C.log (length ws) (omega arith))

  meets : Exact → Meets (as_advance C) (saved_in C.saved)
  meets x =
      let places : length C.log / 8 ≡ length (words_in C.log) / 2 = omega (arith, in_words C.log) in
      let s = said C in
      let w = log_words x in
      (λ i. record { advanced = record { used = s.used i; written = s.written i; saved = x.saved i; report = s.report i }; buffer = s.buffer i; log = w i })
      ∙ ap (λ (k : ℕ). final_by (words_in C.log) (run_of (description_of C.description) (operations_in C.operations) k (saved_in C.saved) C.buffer (words_in C.answers))) places

  -- a refused one did nothing
  pub stopped : T (says_refused C) → Stopped (saved_in C.saved) C.buffer R
  unfolding run_of
  stopped h =
      refusal_stops (check_of (description_of C.description) (operations_in C.operations) (length C.buffer))
      (description_of C.description) (operations_in C.operations) (length C.log / 8) (saved_in C.saved) C.buffer
      (words_in C.answers) (rw (said C).refusal at h)

  refused_saved : T (says_refused C) → C.saved_left ≡ C.saved
  refused_saved h = rw (is_true (says_refused C) h) at (said C).saved

  refused_exact : T (says_refused C) → Exact
  refused_exact h =
      record {
        saved = ap saved_in (refused_saved h) ∙ sym (stopped h).saved;
        saved_bytes_holds = λ a. absurd (T_not (says_refused C) a h);
        entries = rw (stopped h).entries tt;
      }

  reads_exactly : Exact → ReadExactly C
  reads_exactly x =
      let s = said C in
      let ws : List ℕ = words_of R.entries in
      let t = two_each R.entries in
      let l = length_bytes ws in
      let words : take (2 * (answer_of C).written) (words_in C.log_left) ≡ ws =
      rw (s.written, log_words x) (take_at ws (drop (length ws) (words_in C.log)) (2 * length R.entries) t) in
      record {
        report = rw s.report s.number;
        value = rw s.report s.value;
        awaited = rw s.report s.awaited;
        entries = rw (words, s.written, s.log) (take_at (bytes_of ws) (drop (8 * length R.entries) C.log) (8 * length R.entries) (omega arith));
        others = rw (s.written, s.log) (drop_at (bytes_of ws) (drop (8 * length R.entries) C.log) (8 * length R.entries) (omega arith));
        saved = x.saved_bytes_holds;
        refused_saved = refused_saved;
        refused_buffer = λ h. s.buffer ∙ (stopped h).buffer;
        refused_log = λ h. s.log ∙ ap (λ (es : List Entry). log_after es C.log) (stopped h).entries;
      }

-- ---- the list, by what each accepted advance keeps of the saved bytes and the buffer
module _ (a o : List ℕ) (Inv : List ℕ → List ℕ → Type 0)
    (keeps : (C : BoundaryAdvance) → C.description ≡ a → C.operations ≡ o → T (not (says_refused C)) → Inv C.saved C.buffer →
    Exact C × Inv C.saved_left C.buffer_left) where
  record Followed (Cs : List BoundaryAdvance) (s b : List ℕ) : Type 0 where
    follows : Follows (description_of a) (operations_in o) (map as_advance Cs) (saved_in s) b
    exactly : AllReadExactly Cs

  meets_at : (C : BoundaryAdvance) (s : List ℕ) → C.saved ≡ s → Exact C → Meets (as_advance C) (saved_in s)
  meets_at C s e x = subst (λ (s : List ℕ). Meets (as_advance C) (saved_in s)) e (meets C x)

  followed : (Cs : List BoundaryAdvance) (s b : List ℕ) → Inv s b → BytesInTurn a o s b Cs → Followed Cs s b
  followed [] s b i h = record { follows = none; exactly = tt }
  followed (C ∷ Cs) s b i h =
      let g = h.0 in
      both (says_refused C)
      (λ r.
      let x = refused_exact C r in
      let f = followed Cs C.saved_left b (rw (refused_saved C r, g.saved) i) (rw (is_true (says_refused C) r) at h.1) in
      record { follows = but {A = as_advance C} (meets_at C s g.saved x) (refused_as C r) f.follows; exactly = (reads_exactly C x, f.exactly) })
      (λ n.
      let k = keeps C (g.description n) (g.operations n) n (rw (g.saved, g.buffer n) i) in
      let f = followed Cs C.saved_left C.buffer_left k.1 (rw (is_false (says_refused C) n) at h.1) in
      record {
        follows =
            then {A = as_advance C} (meets_at C s g.saved k.0) (ap description_of (g.description n)) (ap operations_in (g.operations n)) (g.buffer n)
            (accepted_as C n) f.follows;
        exactly = (reads_exactly C k.0, f.exactly);
      })

-- ---- the saved call's bytes
pub written_here : (bytes : List ℕ) (s : SavedCall) → length bytes ≡ saved_length → written_to bytes s ≡ saved_bytes s
unfolding written_to
written_here bytes s h = rw (eq-eqb (length bytes) saved_length h)

pub saved_length_holds : (s : SavedCall) → length (saved_bytes s) ≡ saved_length
unfolding saved_bytes
saved_length_holds s = length_bytes (saved_words s)

no_words : OfWords no_call
no_words = search (lit<, tt)

-- where there is no place for a saved call none can be read
no_place : (bytes : List ℕ) (s : SavedCall) → T (not (eqb (length bytes) saved_length)) → saved_in (written_to bytes s) ≡ no_call
unfolding written_to saved_in
no_place bytes s h = (let e = is_false (eqb (length bytes) saved_length) h in rw (e, e))

no_call_holds : (bytes : List ℕ) → saved_in (written_to bytes no_call) ≡ no_call
no_call_holds bytes =
    both (eqb (length bytes) saved_length)
    (λ h. ap saved_in (written_here bytes no_call (eqb→eq _ _ h)) ∙ read_written no_call no_words)
    (no_place bytes no_call)

-- ---- after an accepted begin
module _ (c : Call) (a o : List ℕ) (n : ℕ) (ok : check_of (description_of a) (operations_in o) n ≡ Ok c) where
  abbrev q : Request
  q = request_of c (description_of a) (operations_in o) n

  -- saved bytes that the call goes on from
  record Good (s b : List ℕ) : Type 0 where
    size : length b ≡ n
    bytes : s ≡ saved_bytes (saved_in s)
    accepted : T (accepts q (saved_in s))
    of_words : OfWords (saved_in s)

  good : (t : SavedCall) (s b : List ℕ) → s ≡ saved_bytes t → T (accepts q t) → OfWords t → length b ≡ n → Good s b
  good t s b e h w z =
      let r : saved_in s ≡ t = ap saved_in e ∙ read_written t w in
      record { size = z; bytes = e ∙ sym (ap saved_bytes r); accepted = rw r h; of_words = rw r w }

  goes_on : (C : BoundaryAdvance) → C.description ≡ a → C.operations ≡ o → T (not (says_refused C)) → Good C.saved C.buffer →
      Exact C × Good C.saved_left C.buffer_left
  goes_on C e f r g =
      let k : ℕ = length C.log / 8 in
      let s : SavedCall = saved_in C.saved in
      let l : List ℕ = words_in C.answers in
      let z : length C.buffer ≡ n = g.size in
      let S : Run = advance_from q k s C.buffer l in
      let is : run_in C ≡ S = rw (e, f) (runs c (description_of a) (operations_in o) k s C.buffer l (rw z ok) (rw z g.accepted) ∙ rw z) in
      let I : RunInRange q S =
      run_in_range q (accepted_small c (description_of a) (operations_in o) n ok) k s C.buffer l
      (record { accepted = g.accepted; of_words = g.of_words; bytes = C.buffer_bytes }) (bytes_make_words C.answers C.answer_bytes) in
      let long : length C.saved ≡ saved_length = ap length g.bytes ∙ saved_length_holds s in
      let left : C.saved_left ≡ saved_bytes S.saved =
      (said C).saved ∙ rw (is_false (says_refused C) r, is) (written_here C.saved S.saved long) in
      let G : Good C.saved_left C.buffer_left =
      good S.saved C.saved_left C.buffer_left left I.after.accepted I.after.of_words
      (ap length (said C).buffer ∙ rw is (part q k s C.buffer l).size ∙ z) in
      (record { saved = rw (left, is) (read_written S.saved I.after.of_words); saved_bytes_holds = λ _. G.bytes; entries = rw is I.entries }, G)

-- ---- and after a refused one
none_goes_on : (C : BoundaryAdvance) → T (not (says_refused C)) → saved_in C.saved ≡ no_call → ⊥
unfolding run_of
none_goes_on C r e =
    let d : Description = description_of C.description in
    let ops : List ℕ = operations_in C.operations in
    let h : T (says_refused C) = rw ((said C).refusal, e) (refuses (check_of d ops (length C.buffer)) d ops (length C.log / 8) C.buffer (words_in C.answers)) in
    T_not (says_refused C) r h

-- ---- what the contract says of a begin
begun_saved : (d : Description) (ops : List ℕ) (n : ℕ) (c : Call) → check_of d ops n ≡ Ok c → (begun_of d ops n).saved ≡ begin_of (request_of c d ops n)
unfolding begun_of
begun_saved d ops n c e = rw e

pub record BeginSaid (B : BoundaryBegin) (v : Result Call Refusal) : Type 0 where
  pub refusal : B.refusal ≡ verdict_number v (length B.saved)
  pub saved : B.saved_left ≡ written_to B.saved (begun_by v (description_of B.description) (operations_in B.operations) (length B.buffer)).saved

pub begin_said : (B : BoundaryBegin) (v : Result Call Refusal) → check_of (description_of B.description) (operations_in B.operations) (length B.buffer) ≡ v → BeginSaid B v
unfolding begun_of
begin_said B (Err r) e = record { refusal = ap (λ (x : BeginLeft). x.refusal) B.contract ∙ rw e; saved = ap (λ (x : BeginLeft). x.saved) B.contract ∙ rw e }
begin_said B (Ok c) e = record { refusal = ap (λ (x : BeginLeft). x.refusal) B.contract ∙ rw e; saved = ap (λ (x : BeginLeft). x.saved) B.contract ∙ rw e }

-- ---- the theorem
pub positive : (r : Refusal) → 0 < refusal_number r
positive Address = lit< tt
positive BadList = lit< tt
positive Buffer = lit< tt
positive NoSuchCall = lit< tt
positive BadSavedCall = lit< tt

module _ (B : BoundaryBegin) (Cs : List BoundaryAdvance) (after : BytesAfter B Cs) where
  abbrev d : Description
  d = description_of B.description

  abbrev ops : List ℕ
  ops = operations_in B.operations

  abbrev size : ℕ
  size = length B.buffer

  abbrev As : List Advance
  As = map as_advance Cs

  not_begun : 0 < B.refusal → saved_in B.saved_left ≡ no_call → BoundaryDemand3 B Cs
  not_begun p e =
      let F = followed B.description B.operations (λ s b. saved_in s ≡ no_call) (λ C _ _ r h. absurd (none_goes_on C r h))
      Cs B.saved_left B.buffer e after in
      record {
        accepted = λ z. absurd (omega arith);
        refused = λ _. no_run d ops As (saved_in B.saved_left) B.buffer e F.follows;
        exactly = F.exactly;
      }

  begun : (c : Call) → check_of d ops size ≡ Ok c → B.refusal ≡ 0 →
      B.saved_left ≡ saved_bytes (begin_of (request_of c d ops size)) → BoundaryDemand3 B Cs
  begun c e z t =
      let q : Request = request_of c d ops size in
      let w = begin_words q in
      let F = followed B.description B.operations (Good c B.description B.operations size e)
      (goes_on c B.description B.operations size e) Cs B.saved_left B.buffer
      (good c B.description B.operations size e (begin_of q) B.saved_left B.buffer t (accepted_begin q) w refl) after in
      let u : saved_in B.saved_left ≡ (begun_of d ops size).saved = ap saved_in t ∙ read_written (begin_of q) w ∙ sym (begun_saved d ops size c e) in
      let D : Demand3 (Ok c) d ops B.buffer As = rw e at (demand_3 d ops B.buffer As (rw u at F.follows)) in
      record {
        accepted = λ _. record { call = c; named = accepted_number c d ops size e; begun = t; kept = D };
        refused = λ h. absurd (T_not (eqb B.refusal 0) h (rw z tt));
        exactly = F.exactly;
      }

  by_verdict : (v : Result Call Refusal) → check_of d ops size ≡ v → BoundaryDemand3 B Cs
  by_verdict (Err r) e =
      let s = begin_said B (Err r) e in
      not_begun (rw s.refusal (positive r)) (rw s.saved (no_call_holds B.saved))
  by_verdict (Ok c) e =
      let s = begin_said B (Ok c) e in
      let t : SavedCall = begin_of (request_of c d ops size) in
      both (eqb (length B.saved) saved_length)
      (λ h. begun c e (s.refusal ∙ rw (is_true (eqb (length B.saved) saved_length) h)) (s.saved ∙ written_here B.saved t (eqb→eq _ _ h)))
      (λ h. not_begun (rw (s.refusal, is_false (eqb (length B.saved) saved_length) h) (lit< tt)) (rw s.saved (no_place B.saved t h)))

  pub demand : BoundaryDemand3 B Cs
  demand = by_verdict (check_of d ops size) refl

-- ---- the functions. Each argument and each slice as it was left is named in the contract's equation, so none can be taken
-- for another here.
abbrev pub BeginCall : Type 0
BeginCall = CameBack begin.ended begin-reads.Post

abbrev pub AdvanceCall : Type 0
AdvanceCall = CameBack advance.ended advance-reads.Post

abbrev pub beginning : BeginCall → BoundaryBegin
beginning C =
    let (description, (operations, (buffer, (saved, _)))) = C.given in
    let (_, (_, (_, (saved_left, _)))) = C.left in
    record {
      description = description.now;
      operations = operations.now;
      buffer = buffer.now;
      saved = saved.now;
      refusal = C.gave;
      saved_left = saved_left.now;
      contract = C.contract;
    }

abbrev pub advancing : AdvanceCall → BoundaryAdvance
advancing C =
    let (description, (operations, (saved, (buffer, (answers, (log, _)))))) = C.given in
    let (_, (_, (saved_left, (buffer_left, (_, (log_left, (answer, _))))))) = C.left in
    record {
      description = description.now;
      operations = operations.now;
      saved = saved.now;
      buffer = buffer.now;
      answers = answers.now;
      log = log.now;
      report = C.gave;
      answer = answer.now;
      saved_left = saved_left.now;
      buffer_left = buffer_left.now;
      log_left = log_left.now;
      contract = C.contract.0;
      buffer_bytes = C.contract.1.0;
      answer_bytes = C.contract.1.1;
    }

-- every begin, and every list of advances after it
pub boundary_demand_3 : (B : BeginCall) (Cs : List AdvanceCall) → BytesAfter (beginning B) (map advancing Cs) →
    BoundaryDemand3 (beginning B) (map advancing Cs)
boundary_demand_3 B Cs h = demand (beginning B) (map advancing Cs) h
