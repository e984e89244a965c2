-- Demand 3: however a call is cut into advances, refused ones among them, it is one uncut run. `cut_anywhere` is the theorem.
-- Assumes nothing.
use Rattle.std.specs.Prelude.{Result, Ok, Err}
use Prim.Native.Nat.{ℕ, zero, suc, ◌+◌, ◌*◌, ◌/◌, ◌<◌}
use native.Mathlib.Nat.{zero-add, add-zero, suc-add, add_assoc}
use native.Mathlib.Omega.{arith}
use mathlib.Core.Path.{◌≡◌, refl, sym, ap, ◌∙◌}
use mathlib.Core.Bool.{Bool, true, false, cond, not}
use mathlib.Core.List.{List, [], ◌∷◌, ◌++◌, append_assoc, append-nil}
use borrow.Author.Tests.{le-ltb}
use lib.Dec.{T, T_not, eqb, ltb}
use lib.ListN.{length, take, drop, set, length-set, length-append}
use lib.Seq.{take_at}
use Rattle.registers.specs.Map.{offset_of}
use Rattle.registers.specs.declared.Register.{Register}
use Rattle.registers.specs.declared.Register.TheVariants.{Cr1, Cr2, Oar1, Oar2, Timingr, Isr, Icr, Rxdr, Txdr}
use Rattle.calls.specs.Calls.{Request, call_number}
use Rattle.calls.specs.Next.{next_of}
use Rattle.calls.specs.Refusals.{request_of, check_of, accepts}
use Rattle.calls.specs.Run.{Entry, read_entry, write_entry, words_of, byte_of, Uncut, here, first, uncut_turn, uncut_of, no_call, begun_by, begun_of, Run, stops, turn_of, advance_from, run_by, run_of, Final, as_final, final_by}
use Rattle.calls.specs.Steps.{access_of, after_of, begin_of, same_step}
use Rattle.calls.proofs.Accepted.{accepted_after, accepted_begin}
use Rattle.calls.proofs.Along.{has_access, no_access, made as Along·made}
use Rattle.calls.proofs.Every.{every}
use Rattle.calls.proofs.Logic.{both, is_true, is_false}
use Rattle.calls.specs.Advances.{Advance, Meets, is_refusal, refused, Follows, none, but, then, made, joined, given, buffer_after, saved_after, Last, nobody, last, or_else, last_accepted, Came, over, full, waiting, LastCame, NoneRefused, Untouched, RefusedUntouched, answers_in, OneRun, NoRun, CutAnywhere}
use Rattle.calls.specs.declared.Access.{Access}
use Rattle.calls.specs.declared.Access.TheVariants.{Read, Take, Write, Nothing}
use Rattle.calls.specs.declared.Call.{Call}
use Rattle.calls.specs.declared.Description.{Description}
use Rattle.calls.specs.declared.Next.TheVariants as next
use Rattle.calls.specs.declared.Refusal.TheVariants.{SavedCall as BadSavedCall}
use Rattle.calls.specs.declared.Report.{Report}
use Rattle.calls.specs.declared.Report.TheVariants.{Over, Full, Waiting, Refused}
use Rattle.calls.specs.declared.SavedCall.{SavedCall}
use Rattle.calls.specs.declared.Step.TheVariants.{Ended}
use Rattle.calls.specs.declared.Refusal.{Refusal}

-- ---- one advance

-- entries before a run
abbrev before : List Entry → Uncut → Uncut
before es U = record { saved = U.saved; buffer = U.buffer; log = es ++ U.log }

read_below : (r : Register) → ltb (offset_of r) 0x100 ≡ true
read_below Cr1 = refl
read_below Cr2 = refl
read_below Oar1 = refl
read_below Oar2 = refl
read_below Timingr = refl
read_below Isr = refl
read_below Icr = refl
read_below Rxdr = refl
read_below Txdr = refl

write_above : (r : Register) → ltb (offset_of r + 0x100) 0x100 ≡ false
write_above r = le-ltb (offset_of r + 0x100) 0x100 (omega arith)

abbrev is_nothing : Access → Bool
is_nothing (Read r) = false
is_nothing (Take i) = false
is_nothing (Write r v) = false
is_nothing Nothing = true

-- why an advance over n places and the answers l came back
pub data RunCame (q : Request) (n : ℕ) (l : List ℕ) (R : Run) : Type 0 where
  over' : T (same_step R.saved.step Ended) → R.report ≡ Over R.saved.outcome → RunCame q n l R
  full' : T (not (same_step R.saved.step Ended)) → length R.entries ≡ n → R.report ≡ Full → RunCame q n l R
  waiting' : (r : Register) → T (not (same_step R.saved.step Ended)) → length R.entries < n →
      next_of (access_of q R.buffer R.saved) ≡ next.Read r → R.used ≡ length l → R.report ≡ Waiting r → RunCame q n l R

-- what an advance R from s is to the uncut run: over the answers that it used and then `rest`, to as many accesses and m
-- more, that is the advance and then the run over `rest`
pub record Part (q : Request) (n : ℕ) (s : SavedCall) (b l : List ℕ) (R : Run) : Type 0 where
  pub goes_on : (m : ℕ) (rest : List ℕ) →
      uncut_of q (length R.entries + m) s b (take R.used l ++ rest) ≡ before R.entries (uncut_of q m R.saved R.buffer rest)
  pub answers : answers_in R.entries ≡ take R.used l
  pub size : length R.buffer ≡ length b
  pub accepted : T (accepts q s) → T (accepts q R.saved)
  pub came : RunCame q n l R

-- an advance that makes an access first
came_more : (q : Request) (n : ℕ) (l l' : List ℕ) (e : Entry) (u : ℕ) (R : Run) → RunCame q n l R → (R.used ≡ length l → u ≡ length l')
    → RunCame q (suc n) l' (record { report = R.report; saved = R.saved; buffer = R.buffer; used = u; entries = e ∷ R.entries })
came_more q n l l' e u R (over' h r) f = over' h r
came_more q n l l' e u R (full' h w r) f = full' h (ap suc w) r
came_more q n l l' e u R (waiting' k h w x v r) f = waiting' k h (omega arith) x (f v) r

-- a call has ended where it has no access
ended_nothing : (q : Request) (b : List ℕ) (s : SavedCall) → same_step s.step Ended ≡ is_nothing (access_of q b s)
ended_nothing q b s =
    both (same_step s.step Ended)
    (λ e. is_true (same_step s.step Ended) e ∙ sym (ap is_nothing (no_access q b s e)))
    (λ n. is_false (same_step s.step Ended) n ∙ go (access_of q b s) (has_access q b s n))
  where
    go : (x : Access) → T (Along·made x) → false ≡ is_nothing x
    go (Read r) h = refl
    go (Take i) h = refl
    go (Write r v) h = refl
    go Nothing h = absurd h

module _ (q : Request) where
  nothing : (n : ℕ) (r : Report) (s : SavedCall) (b l : List ℕ) → RunCame q n l (stops r s b) → Part q n s b l (stops r s b)
  nothing n r s b l c = record { goes_on = λ m rest. rw zero-add; answers = refl; size = refl; accepted = λ h. h; came = c }

  module _ (n : ℕ) (ih : (s : SavedCall) (b l : List ℕ) → Part q n s b l (advance_from q n s b l)) (s : SavedCall) (b : List ℕ) where
    waits : (r : Register) (x : Access) → access_of q b s ≡ x → next_of x ≡ next.Read r → T (not (is_nothing x)) →
        Part q (suc n) s b [] (stops (Waiting r) s b)
    waits r x e h k =
        nothing (suc n) (Waiting r) s b []
        (waiting' r (rw (ended_nothing q b s, e) k) (omega arith) (rw e h) refl refl)

    turn : (l : List ℕ) (x : Access) → access_of q b s ≡ x → Part q (suc n) s b l (turn_of (advance_from q n) q s b l x)
    unfolding uncut_of
    turn l Nothing e = nothing (suc n) (Over s.outcome) s b l (over' (rw (ended_nothing q b s, e) tt) refl)
    turn l (Write r v) e =
        let p = ih (after_of q s 0) b l in
        record {
          goes_on = λ m rest. rw (suc-add, e) (ap (first (write_entry r v)) (p.goes_on m rest));
          answers = rw (write_above r) p.answers;
          size = p.size;
          accepted = λ h. p.accepted (accepted_after q s 0 h);
          came = came_more q n l l (write_entry r v) _ _ p.came (λ u. u);
        }
    turn [] (Read r) e = waits r (Read r) e refl tt
    turn (a ∷ l) (Read r) e =
        let p = ih (after_of q s a) b l in
        record {
          goes_on = λ m rest. rw (suc-add, e) (ap (first (read_entry r a)) (p.goes_on m rest));
          answers = rw (read_below r) (ap (◌∷◌ a) p.answers);
          size = p.size;
          accepted = λ h. p.accepted (accepted_after q s a h);
          came = came_more q n l (a ∷ l) (read_entry r a) _ _ p.came (ap suc);
        }
    turn [] (Take i) e = waits Rxdr (Take i) e refl tt
    turn (a ∷ l) (Take i) e =
        let p = ih (after_of q s a) (set b i (byte_of a)) l in
        record {
          goes_on = λ m rest. rw (suc-add, e) (ap (first (read_entry Rxdr a)) (p.goes_on m rest));
          answers = ap (◌∷◌ a) p.answers;
          size = p.size ∙ length-set b i (byte_of a);
          accepted = λ h. p.accepted (accepted_after q s a h);
          came = came_more q n l (a ∷ l) (read_entry Rxdr a) _ _ p.came (ap suc);
        }

  pub part : (n : ℕ) (s : SavedCall) (b l : List ℕ) → Part q n s b l (advance_from q n s b l)
  unfolding advance_from
  part zero s b l =
      nothing zero _ s b l
      (both (same_step s.step Ended)
      (λ h. over' h (rw (is_true (same_step s.step Ended) h)))
      (λ h. full' h refl (rw (is_false (same_step s.step Ended) h))))
  part (suc n) s b l = turn n (part n) s b l (access_of q b s) refl

  -- past its end a call makes no access
  pub ended_stays : (m : ℕ) (s : SavedCall) (b l : List ℕ) → T (same_step s.step Ended) → uncut_of q m s b l ≡ here s b
  unfolding uncut_of
  ended_stays zero s b l h = refl
  ended_stays (suc m) s b l h = go (access_of q b s) (rw (ended_nothing q b s) at h)
    where
      go : (x : Access) → T (is_nothing x) → uncut_turn (uncut_of q m) q s b l x ≡ here s b
      go Nothing h = refl
      go (Read r) h = absurd h
      go (Take i) h = absurd h
      go (Write r v) h = absurd h

-- ---- what the contract says of one advance

record Got (A : Advance) (R : Run) : Type 0 where
  used : A.result.used ≡ R.used
  written : A.result.written ≡ length R.entries
  saved : A.result.saved ≡ R.saved
  report : A.result.report ≡ R.report
  buffer : A.buffer_left ≡ R.buffer
  log : A.log_left ≡ words_of R.entries ++ drop (length (words_of R.entries)) A.log

got : (A : Advance) (s : SavedCall) (R : Run) → Meets A s
    → run_of A.words A.operations (length A.log / 2) s A.buffer A.answers ≡ R → Got A R
got A s R m e =
    let f : as_final A.result A.buffer_left A.log_left ≡ final_by A.log R = m ∙ ap (final_by A.log) e in
    record {
      used = ap (λ (F : Final). F.advanced.used) f;
      written = ap (λ (F : Final). F.advanced.written) f;
      saved = ap (λ (F : Final). F.advanced.saved) f;
      report = ap (λ (F : Final). F.advanced.report) f;
      buffer = ap (λ (F : Final). F.buffer) f;
      log = ap (λ (F : Final). F.log) f;
    }

-- its words, read back from the log
pub two_each : (es : List Entry) → length (words_of es) ≡ 2 * length es
two_each [] = refl
two_each (e ∷ es) = omega (arith, two_each es)

in_log : (A : Advance) (R : Run) → Got A R → take (2 * A.result.written) A.log_left ≡ words_of R.entries
in_log A R g =
    rw (g.written, g.log)
    (take_at (words_of R.entries) (drop (length (words_of R.entries)) A.log) (2 * length R.entries) (two_each R.entries))

-- an accepted description and saved call are run
pub runs : (c : Call) (d : Description) (ops : List ℕ) (n : ℕ) (s : SavedCall) (b l : List ℕ) → check_of d ops (length b) ≡ Ok c
    → T (accepts (request_of c d ops (length b)) s) → run_of d ops n s b l ≡ advance_from (request_of c d ops (length b)) n s b l
unfolding run_of
runs c d ops n s b l e h = rw (e, is_true (accepts (request_of c d ops (length b)) s) h)

-- and else the advance is refused, and is nothing but that
not_refusal : (q : Request) (n : ℕ) (l : List ℕ) (R : Run) → RunCame q n l R → T (not (is_refusal R.report))
not_refusal q n l R (over' h r) = rw r tt
not_refusal q n l R (full' h w r) = rw r tt
not_refusal q n l R (waiting' k h w x u r) = rw r tt

pub record Stopped (s : SavedCall) (b : List ℕ) (R : Run) : Type 0 where
  pub saved : R.saved ≡ s
  pub buffer : R.buffer ≡ b
  pub used : R.used ≡ 0
  pub entries : R.entries ≡ []

pub refusal_stops : (v : Result Call Refusal) (d : Description) (ops : List ℕ) (n : ℕ) (s : SavedCall) (b l : List ℕ)
    → T (is_refusal (run_by v d ops n s b l).report) → Stopped s b (run_by v d ops n s b l)
refusal_stops (Err r) d ops n s b l h = record { saved = refl; buffer = refl; used = refl; entries = refl }
refusal_stops (Ok c) d ops n s b l h = go (accepts q s) h
  where
    q : Request
    q = request_of c d ops (length b)

    go : (t : Bool) → T (is_refusal (cond t (advance_from q n s b l) (stops (Refused BadSavedCall) s b)).report)
        → Stopped s b (cond t (advance_from q n s b l) (stops (Refused BadSavedCall) s b))
    go true h = absurd (T_not (is_refusal (advance_from q n s b l).report) (not_refusal q n l (advance_from q n s b l) (part q n s b l).came) h)
    go false h = record { saved = refl; buffer = refl; used = refl; entries = refl }

untouched : (A : Advance) (s : SavedCall) → Meets A s → T (refused A) → Untouched A s
unfolding run_of
untouched A s m h =
    let R : Run = run_of A.words A.operations (length A.log / 2) s A.buffer A.answers in
    let g : Got A R = got A s R m refl in
    let z : Stopped s A.buffer R = refusal_stops (check_of A.words A.operations (length A.buffer)) A.words A.operations
    (length A.log / 2) s A.buffer A.answers (rw g.report at h) in
    record {
      saved = g.saved ∙ z.saved;
      used = g.used ∙ z.used;
      written = g.written ∙ ap length z.entries;
      buffer = g.buffer ∙ z.buffer;
      log = g.log ∙ ap (λ (es : List Entry). words_of es ++ drop (length (words_of es)) A.log) z.entries;
    }

-- ---- the list

record Ran (q : Request) (s : SavedCall) (b : List ℕ) (As : List Advance) : Type 0 where
  log : List Entry
  count : length log ≡ made As
  words : words_of log ≡ joined As
  answers : answers_in log ≡ given As
  run : (m : ℕ) (rest : List ℕ) →
      uncut_of q (made As + m) s b (given As ++ rest) ≡ before log (uncut_of q m (saved_after As s) (buffer_after As b) rest)
  came : LastCame q (saved_after As s) (buffer_after As b) (last_accepted As)
  idle : last_accepted As ≡ nobody → (saved_after As s ≡ s) × (buffer_after As b ≡ b)
  accepted : NoneRefused q.words q.operations q.size As
  untouched : RefusedUntouched As s

words_append : (es fs : List Entry) → words_of (es ++ fs) ≡ words_of es ++ words_of fs
words_append [] fs = refl
words_append (e ∷ es) fs = ap (λ (l : List ℕ). e.code ∷ e.value ∷ l) (words_append es fs)

answers_append : (es fs : List Entry) → answers_in (es ++ fs) ≡ answers_in es ++ answers_in fs
answers_append [] fs = refl
answers_append (e ∷ es) fs =
    ap (λ (l : List ℕ). cond (ltb e.code 0x100) (e.value ∷ []) [] ++ l) (answers_append es fs)
    ∙ sym (append_assoc (cond (ltb e.code 0x100) (e.value ∷ []) []) (answers_in es) (answers_in fs))

still_nobody : (L : Last) (t : Bool) (A : Advance) → or_else L t A ≡ nobody → L ≡ nobody
still_nobody nobody t A e = refl
still_nobody (last B) t A e = e

somebody : (L : Last) (A : Advance) → or_else L false A ≡ nobody → ⊥
somebody nobody A e = let z : ◌≡◌ {A = ℕ} 0 1 = cc in omega arith
somebody (last B) A e = let z : ◌≡◌ {A = ℕ} 0 1 = cc in omega arith

-- a refused advance adds nothing
ran_refused : (q : Request) (s : SavedCall) (b : List ℕ) (A : Advance) (As : List Advance) → Untouched A s → T (refused A)
    → (A.words ≡ q.words → A.operations ≡ q.operations → length A.buffer ≡ q.size → T (not (refused A)))
    → Ran q A.result.saved b As → Ran q s b (A ∷ As)
ran_refused q s b A As u h f r = record {
  log = r.log;
  count = rw (u.written, zero-add) r.count;
  words = rw u.written r.words;
  answers = rw u.used r.answers;
  run = λ m rest. rw (u.written, u.used, is_true (refused A) h, zero-add, ← u.saved) (r.run m rest);
  came = rw (is_true (refused A) h) (go (last_accepted As) r.came);
  idle = λ e.
      let i = r.idle (still_nobody (last_accepted As) (refused A) A e) in
      (i.0 ∙ u.saved, rw (is_true (refused A) h) i.1);
  accepted = (f, r.accepted);
  untouched = (λ _. u, r.untouched);
}
  where
    go : (L : Last) → LastCame q (saved_after As A.result.saved) (buffer_after As b) L
        → LastCame q (saved_after As A.result.saved) (buffer_after As b) (or_else L true A)
    go nobody c = tt
    go (last B) c = c

-- an accepted one adds its run
came_as : (q : Request) (s : SavedCall) (b : List ℕ) (A : Advance) (R : Run) → Got A R
    → RunCame q (length A.log / 2) A.answers R → s ≡ R.saved → b ≡ R.buffer → Came q s b A
came_as q s b A R g (over' h r) e f = over (rw e h) (g.report ∙ r ∙ rw e)
came_as q s b A R g (full' h w r) e f = full (rw e h) (g.written ∙ w) (g.report ∙ r)
came_as q s b A R g (waiting' k h w x u r) e f = waiting k (rw e h) (rw g.written w) (rw (e, f) x) (g.used ∙ u) (g.report ∙ r)

ran_accepted : (q : Request) (s : SavedCall) (b : List ℕ) (A : Advance) (As : List Advance) (R : Run) → Got A R
    → Part q (length A.log / 2) s b A.answers R → T (not (refused A)) → Ran q A.result.saved A.buffer_left As → Ran q s b (A ∷ As)
ran_accepted q s b A As R g p h r = record {
  log = R.entries ++ r.log;
  count = length-append R.entries r.log ∙ (let e = r.count in rw (g.written, e));
  words = words_append R.entries r.log ∙ rw (in_log A R g, r.words);
  answers = answers_append R.entries r.log ∙ rw (g.used, p.answers, r.answers);
  run = λ m rest.
      rw (add_assoc A.result.written (made As) m, append_assoc (take A.result.used A.answers) (given As) rest, g.written, g.used, is_false (refused A) h)
      (p.goes_on (made As + m) (given As ++ rest) ∙ rw (← g.saved, ← g.buffer, r.run m rest) (simp append_assoc));
  came = rw (is_false (refused A) h) (go (last_accepted As) refl r.came);
  idle = λ e. absurd (somebody (last_accepted As) A (rw (is_false (refused A) h) at e));
  accepted = (λ _ _ _. h, r.accepted);
  untouched = (λ t. absurd (T_not (refused A) h t), r.untouched);
}
  where
    go : (L : Last) → last_accepted As ≡ L → LastCame q (saved_after As A.result.saved) (buffer_after As A.buffer_left) L
        → LastCame q (saved_after As A.result.saved) (buffer_after As A.buffer_left) (or_else L false A)
    go nobody e c =
        let i = r.idle e in
        came_as q (saved_after As A.result.saved) (buffer_after As A.buffer_left) A R g p.came (i.0 ∙ g.saved) (i.1 ∙ g.buffer)
    go (last B) e c = c

module _ (c : Call) (d : Description) (ops : List ℕ) (n : ℕ) (ok : check_of d ops n ≡ Ok c) where
  abbrev q : Request
  q = request_of c d ops n

  accepted_got : (A : Advance) (s : SavedCall) → Meets A s → A.words ≡ d → A.operations ≡ ops → length A.buffer ≡ n → T (accepts q s)
      → Got A (advance_from q (length A.log / 2) s A.buffer A.answers)
  accepted_got A s m e f g h =
      got A s _ m
      (rw (e, f) (runs c d ops (length A.log / 2) s A.buffer A.answers (rw g ok) (rw g h) ∙ rw g))

  never_refused : (A : Advance) (s : SavedCall) → Meets A s → T (accepts q s)
      → A.words ≡ d → A.operations ≡ ops → length A.buffer ≡ n → T (not (refused A))
  never_refused A s m h e f g =
      rw (accepted_got A s m e f g h).report
      (not_refusal q (length A.log / 2) A.answers _ (part q (length A.log / 2) s A.buffer A.answers).came)

  ran : (As : List Advance) (s : SavedCall) (b : List ℕ) → length b ≡ n → T (accepts q s) → Follows d ops As s b → Ran q s b As
  ran [] s b z h none = record {
    log = [];
    count = refl;
    words = refl;
    answers = refl;
    run = λ m rest. rw zero-add;
    came = tt;
    idle = λ _. (refl, refl);
    accepted = tt;
    untouched = tt;
  }
  ran (A ∷ As) s b z h (but m r f) =
      let u = untouched A s m r in
      ran_refused q s b A As u r (never_refused A s m h) (ran As A.result.saved b z (rw u.saved h) f)
  ran (A ∷ As) s b z h (then m e₁ e₂ e₃ r f) =
      let R : Run = advance_from q (length A.log / 2) s A.buffer A.answers in
      let g : Got A R = accepted_got A s m e₁ e₂ (ap length e₃ ∙ z) h in
      let p : Part q (length A.log / 2) s A.buffer A.answers R = part q (length A.log / 2) s A.buffer A.answers in
      ran_accepted q s b A As R g (rw (← e₃) p) r
      (ran As A.result.saved A.buffer_left (ap length g.buffer ∙ p.size ∙ ap length e₃ ∙ z) (rw g.saved (p.accepted h)) f)

one_run : (q : Request) (b : List ℕ) (As : List Advance) → Ran q (begin_of q) b As → OneRun q b As
one_run q b As r = record {
  log = r.log;
  count = r.count;
  words = r.words;
  answers = r.answers;
  run = λ rest. (rw add-zero at (r.run 0 rest)) ∙ unfold uncut_of in ap (λ (l : List Entry). record { saved = saved_after As (begin_of q); buffer = buffer_after As b; log = l }) (append-nil r.log);
  stays = λ h m rest. r.run m rest ∙ rw (ended_stays q m (saved_after As (begin_of q)) (buffer_after As b) rest h) (ap (λ (l : List Entry). record { saved = saved_after As (begin_of q); buffer = buffer_after As b; log = l }) (append-nil r.log));
  came = r.came;
  accepted = r.accepted;
  untouched = r.untouched;
}

-- ---- after a refused begin

no_number : (c : Call) → eqb 0 (call_number c) ≡ false
no_number c = is_false (eqb 0 (call_number c)) (every (λ c. not (eqb 0 (call_number c))) tt c)

pub refuses : (v : Result Call Refusal) (d : Description) (ops : List ℕ) (n : ℕ) (b l : List ℕ) → T (is_refusal (run_by v d ops n no_call b l).report)
unfolding accepts
refuses (Err r) d ops n b l = tt
refuses (Ok c) d ops n b l = rw (no_number c) tt

refused_all : (A : Advance) → Meets A no_call → T (refused A)
unfolding run_of
refused_all A m =
    rw (got A no_call _ m refl).report
    (refuses (check_of A.words A.operations (length A.buffer)) A.words A.operations (length A.log / 2) A.buffer A.answers)

pub no_run : (d : Description) (ops : List ℕ) (As : List Advance) (s : SavedCall) (b : List ℕ) → s ≡ no_call → Follows d ops As s b → NoRun b As
no_run d ops [] s b e none = record { refused = tt; untouched = tt; made = refl; joined = refl; buffer = refl }
no_run d ops (A ∷ As) s b e (then m e₁ e₂ e₃ r f) = absurd (T_not (refused A) r (refused_all A (rw e at m)))
no_run d ops (A ∷ As) s b e (but m r f) =
    let m' : Meets A no_call = rw e at m in
    let u : Untouched A no_call = untouched A no_call m' r in
    let i = no_run d ops As A.result.saved b u.saved f in
    record {
      refused = (r, i.refused);
      untouched = (λ _. u, rw u.saved i.untouched);
      made = rw (u.written, zero-add) i.made;
      joined = rw u.written i.joined;
      buffer = rw (is_true (refused A) r) i.buffer;
    }

pub cut_anywhere : (d : Description) (ops : List ℕ) (b : List ℕ) (As : List Advance)
    → Follows d ops As (begun_of d ops (length b)).saved b → CutAnywhere (check_of d ops (length b)) d ops b As
unfolding begun_of
cut_anywhere d ops b As f = go (check_of d ops (length b)) refl f
  where
    go : (v : Result Call Refusal) → check_of d ops (length b) ≡ v → Follows d ops As (begun_by v d ops (length b)).saved b → CutAnywhere v d ops b As
    go (Ok c) e f =
        let q : Request = request_of c d ops (length b) in
        one_run q b As (ran c d ops (length b) e As (begin_of q) b refl (accepted_begin q) f)
    go (Err r) e f = no_run d ops As no_call b refl f
