-- What demand 3 across the boundary says, again and in other words: in bytes, and of lists of calls that are linked one by one.
-- Nothing rests on this file: it is proved so that a statement that loses a part is noticed. Assumes nothing.
use Prim.Native.Nat.{ℕ, ◌+◌, ◌-◌, ◌*◌, ◌/◌, ◌≤◌, ◌<◌, min}
use native.Mathlib.Omega.{arith}
use mathlib.Core.Path.{◌≡◌, refl, sym, ap, ◌∙◌, subst}
use mathlib.Core.Bool.{Bool, cond, not, ◌||◌}
use mathlib.Core.List.{List, [], ◌∷◌, ◌++◌, map}
use lib.Dec.{T, T_not, eqb, eqb→eq}
use lib.ListN.{length, get_or, take, drop, replicate}
use borrow.Author.Tests.{ne_eqb}
use Rattle.words.proofs.Turns.{in_words}
use Rattle.registers.specs.Map.{offset_of}
use Rattle.registers.specs.declared.Register.{Register}
use Rattle.registers.specs.declared.Register.TheVariants.{Oar1}
use Rattle.calls.proofs.Logic.{is_true, is_false}
use Rattle.calls.specs.Advances.{Advance, made, joined, given, buffer_after, saved_after, Last, last, or_else, last_accepted, Came, over, full, waiting, NoneRefused, Untouched, RefusedUntouched, AllRefused, answers_in, NoRun}
use Rattle.calls.specs.Advances as advances
use Rattle.calls.specs.Bytes.{EndedAs, caller_bytes, read_places, bytes_at}
use Rattle.calls.specs.Calls.{Request, call_number, transaction, manual, receives, transmits, manual_write}
use Rattle.calls.specs.Demand.{left}
use Rattle.calls.specs.Events.{status_in, reads_of, address_by}
use Rattle.calls.specs.Next.{next_of}
use Rattle.calls.specs.Outcomes.{waiting_number, refused_number, full_number, outcome_number, outcome_value, report_number, report_value, awaited_of}
use Rattle.calls.specs.Refusals.{any_of}
use Rattle.calls.specs.Run.{Entry, words_of, uncut_of, no_call, put_out, taken_in}
use Rattle.calls.specs.Steps.{access_of, begin_of, same_step}
use Rattle.calls.specs.declared.Description.{Description}
use Rattle.calls.specs.declared.Next.{Next}
use Rattle.calls.specs.declared.Next.TheVariants as next
use Rattle.calls.specs.declared.Outcome.TheVariants.{Done, EventRead, EventWrite}
use Rattle.calls.specs.declared.Report.TheVariants.{Over, Full, Waiting}
use Rattle.calls.specs.declared.SavedCall.{SavedCall}
use Rattle.calls.specs.declared.Step.TheVariants.{Ended}
use Rattle.saved.proofs.Round.{read_written}
use Rattle.saved.proofs.Words.{begin_words}
use Rattle.saved.specs.Saved.{saved_bytes, saved_in}
use Rattle.words.proofs.Turns.{bytes_append}
use Rattle.words.specs.Words.{words_in, bytes_of}
use Rattle.boundary.specs.Calls.{told, description_of, operations_in}
use Rattle.boundary.specs.Demand.{says_refused, answer_of, BytesInTurn, as_advance, registers, register_in, request_in, Ran, ReadExactly, AllReadExactly, BoundaryDemand3}
use Rattle.boundary.proofs.Demand.{same_refusal, BeginCall, beginning, AdvanceCall, advancing, boundary_demand_3}

-- ---- the list: each advance goes on from the saved bytes that the last call left, a refused one lent anything.
data Linked (d ops : List ℕ) : List AdvanceCall → List ℕ → List ℕ → Type 0 where
  end : {s b : List ℕ} → Linked d ops [] s b
  apart : {C : AdvanceCall} {Cs : List AdvanceCall} {s b : List ℕ} →
      (advancing C).saved ≡ s → (advancing C).report ≡ refused_number → Linked d ops Cs (advancing C).saved_left b → Linked d ops (C ∷ Cs) s b
  on : {C : AdvanceCall} {Cs : List AdvanceCall} {s b : List ℕ} →
      (advancing C).saved ≡ s → (advancing C).description ≡ d → (advancing C).operations ≡ ops → (advancing C).buffer ≡ b →
      T (not (eqb (advancing C).report refused_number)) → Linked d ops Cs (advancing C).saved_left (advancing C).buffer_left → Linked d ops (C ∷ Cs) s b

not_both : (C : AdvanceCall) {X : Type 0} → C.gave ≡ refused_number → T (not (says_refused (advancing C))) → X
not_both C e n = (let h : T (says_refused (advancing C)) = rw e tt in absurd (T_not (says_refused (advancing C)) n h))

in_turn : (d ops : List ℕ) (Cs : List AdvanceCall) (s b : List ℕ) → Linked d ops Cs s b → BytesInTurn d ops s b (map advancing Cs)
in_turn d ops [] s b end = tt
in_turn d ops (C ∷ Cs) s b (apart e r l) =
    let h : T (says_refused (advancing C)) = rw r tt in (
      record { saved = e; description = not_both C r; operations = not_both C r; buffer = not_both C r },
      rw (is_true (says_refused (advancing C)) h) (in_turn d ops Cs _ b l),
    )
in_turn d ops (C ∷ Cs) s b (on e f g h n l) = (
  record { saved = e; description = λ _. f; operations = λ _. g; buffer = λ _. h },
  rw (is_false (says_refused (advancing C)) n) (in_turn d ops Cs _ _ l),
)

-- What the calls did together, in bytes: the entries' bytes, the answers used, and what is left of the saved call and the buffer.
abbrev log_bytes : List AdvanceCall → List ℕ
log_bytes [] = []
log_bytes (C ∷ Cs) = take (8 * (answer_of (advancing C)).written) (advancing C).log_left ++ log_bytes Cs

abbrev answers_used : List AdvanceCall → List ℕ
answers_used [] = []
answers_used (C ∷ Cs) = take (answer_of (advancing C)).used (words_in (advancing C).answers) ++ answers_used Cs

abbrev last_saved : List AdvanceCall → List ℕ → List ℕ
last_saved [] s = s
last_saved (C ∷ Cs) s = last_saved Cs (advancing C).saved_left

abbrev last_buffer : List AdvanceCall → List ℕ → List ℕ
last_buffer [] b = b
last_buffer (C ∷ Cs) b = last_buffer Cs (cond (eqb C.gave refused_number) b (advancing C).buffer_left)

-- it is what demand 3 says of the advances that they are
abbrev As : List AdvanceCall → List Advance
As Cs = map as_advance (map advancing Cs)

same_answers : (Cs : List AdvanceCall) → given (As Cs) ≡ answers_used Cs
same_answers [] = refl
same_answers (C ∷ Cs) = ap (λ (l : List ℕ). take (answer_of (advancing C)).used (words_in (advancing C).answers) ++ l) (same_answers Cs)

same_buffer : (Cs : List AdvanceCall) (b : List ℕ) → buffer_after (As Cs) b ≡ last_buffer Cs b
same_buffer [] b = refl
same_buffer (C ∷ Cs) b =
    ap (λ (r : Bool). buffer_after (As Cs) (cond r b (advancing C).buffer_left)) (same_refusal (advancing C))
    ∙ same_buffer Cs (cond (eqb C.gave refused_number) b (advancing C).buffer_left)

same_saved : (Cs : List AdvanceCall) (s : List ℕ) → saved_after (As Cs) (saved_in s) ≡ saved_in (last_saved Cs s)
same_saved [] s = refl
same_saved (C ∷ Cs) s = same_saved Cs (advancing C).saved_left

same_log : (Cs : List AdvanceCall) → AllReadExactly (map advancing Cs) → bytes_of (joined (As Cs)) ≡ log_bytes Cs
same_log [] x = refl
same_log (C ∷ Cs) x =
    bytes_append (take (2 * (answer_of (advancing C)).written) (words_in (advancing C).log_left)) (joined (As Cs))
    ∙ rw (← x.0.entries) (ap (λ (l : List ℕ). take (8 * (answer_of (advancing C)).written) (advancing C).log_left ++ l) (same_log Cs x.1))

saved_whole : (d ops : List ℕ) (Cs : List AdvanceCall) (s b : List ℕ) → Linked d ops Cs s b → AllReadExactly (map advancing Cs) →
    s ≡ saved_bytes (saved_in s) → last_saved Cs s ≡ saved_bytes (saved_in (last_saved Cs s))
saved_whole d ops [] s b end x e = e
saved_whole d ops (C ∷ Cs) s b (apart f r l) x e =
    let h : T (says_refused (advancing C)) = rw r tt in
    saved_whole d ops Cs _ b l x.1 (rw (x.0.refused_saved h, f) e)
saved_whole d ops (C ∷ Cs) s b (on f _ _ _ n l) x e = saved_whole d ops Cs _ _ l x.1 (x.0.saved n)

the_last : (Cs : List AdvanceCall) (C : AdvanceCall) → T (not (says_refused (advancing C))) → last_accepted (As (Cs ++ C ∷ [])) ≡ last (as_advance (advancing C))
the_last [] C n = (let r = is_false (says_refused (advancing C)) n in rw (same_refusal (advancing C), r))
the_last (D ∷ Cs) C n = ap (λ (L : Last). or_else L (advances.refused (as_advance (advancing D))) (as_advance (advancing D))) (the_last Cs C n)

exact_at : (before : List AdvanceCall) (C : AdvanceCall) (after : List AdvanceCall) → AllReadExactly (map advancing (before ++ C ∷ after)) →
    ReadExactly (advancing C)
exact_at [] C after x = x.0
exact_at (D ∷ before) C after x = exact_at before C after x.1

none_refused_at : (d : Description) (ops : List ℕ) (n : ℕ) (before : List AdvanceCall) (C : AdvanceCall) (after : List AdvanceCall) →
    NoneRefused d ops n (As (before ++ C ∷ after)) → description_of (advancing C).description ≡ d → operations_in (advancing C).operations ≡ ops →
    length (advancing C).buffer ≡ n → T (not (advances.refused (as_advance (advancing C))))
none_refused_at d ops n [] C after x = x.0
none_refused_at d ops n (D ∷ before) C after x = none_refused_at d ops n before C after x.1

untouched_at : (s : SavedCall) (before : List AdvanceCall) (C : AdvanceCall) (after : List AdvanceCall) →
    RefusedUntouched (As (before ++ C ∷ after)) s → T (advances.refused (as_advance (advancing C))) →
    Untouched (as_advance (advancing C)) (saved_after (As before) s)
untouched_at s [] C after x = x.0
untouched_at s (D ∷ before) C after x = untouched_at ((as_advance (advancing D)).result.saved) before C after x.1

-- after a begin that returned 0
-- the next access is a read of the register at that offset
record Awaits (x : Next) (at : ℕ) : Type 0 where
  register : Register
  read : x ≡ next.Read register
  offset : at ≡ offset_of register

module _ (B : BeginCall) (Cs : List AdvanceCall) (z : B.gave ≡ 0)
    (l : Linked (beginning B).description (beginning B).operations Cs (beginning B).saved_left (beginning B).buffer) where
  demand : BoundaryDemand3 (beginning B) (map advancing Cs)
  demand = boundary_demand_3 B Cs (in_turn _ _ Cs _ _ l)

  abbrev ran : Ran (beginning B) (As Cs)
  ran = demand.accepted z

  abbrev q : Request
  q = request_in (beginning B) ran.call

  abbrev begun : List ℕ
  begun = (beginning B).buffer

  abbrev log : List Entry
  log = ran.kept.one_run.log

  abbrev saved : SavedCall
  saved = saved_in (last_saved Cs (beginning B).saved_left)

  abbrev buffer : List ℕ
  buffer = last_buffer Cs begun

  -- the begun call, and what is left of it
  same_begun : saved_in (beginning B).saved_left ≡ begin_of q
  same_begun = ap saved_in ran.begun ∙ read_written (begin_of q) (begin_words q)

  same_left : saved_after (As Cs) (begin_of q) ≡ saved
  same_left = rw (← same_begun) (same_saved Cs (beginning B).saved_left)

  -- its number is the description's
  the_call : call_number ran.call ≡ (told (beginning B).description).call
  the_call = ran.named

  -- the entries are those of the uncut run over the answers used, whatever answers follow, and buffer and saved call are its own
  one_run : (rest : List ℕ) → uncut_of q (length log) (begin_of q) begun (answers_used Cs ++ rest) ≡ record { saved = saved; buffer = buffer; log = log }
  one_run rest =
      let r = ran.kept.one_run in
      rw (r.count, ← same_answers Cs, ← same_left, ← same_buffer Cs begun) (r.run rest)

  -- one answer to each read
  one_to_each_read : answers_in log ≡ answers_used Cs
  one_to_each_read = ran.kept.one_run.answers ∙ same_answers Cs

  -- an ended call stays as it is
  stays_ended : T (same_step saved.step Ended) → (m : ℕ) (rest : List ℕ) →
      uncut_of q (length log + m) (begin_of q) begun (answers_used Cs ++ rest) ≡ record { saved = saved; buffer = buffer; log = log }
  stays_ended h m rest =
      let r = ran.kept.one_run in
      rw (r.count, ← same_answers Cs, ← same_left, ← same_buffer Cs begun) (r.stays (rw same_left h) m rest)

  -- byte for byte
  log_bytes_holds : log_bytes Cs ≡ bytes_of (words_of log)
  log_bytes_holds = sym (same_log Cs demand.exactly) ∙ sym (ap bytes_of ran.kept.one_run.words)

  saved_bytes_holds : last_saved Cs (beginning B).saved_left ≡ saved_bytes saved
  saved_bytes_holds =
      saved_whole _ _ Cs _ _ l demand.exactly (ran.begun ∙ sym (ap saved_bytes same_begun))

  -- bytes go out and come in as the caller has them, and the counts are of those
  sent_in_order : put_out log ≡ take (length (put_out log)) (caller_bytes q begun) ++ replicate (length (put_out log) - length (caller_bytes q begun)) 0
  sent_in_order = ran.kept.bytes_out.in_order

  none_made_up : T (not (transmits ran.call)) → length (put_out log) ≤ length (caller_bytes q begun)
  none_made_up = ran.kept.bytes_out.no_zeros

  received_in_order : bytes_at buffer (read_places q) ≡ taken_in log ++ drop (length (taken_in log)) (bytes_at begun (read_places q))
  received_in_order = rw (← same_buffer Cs begun) ran.kept.bytes_in.in_order

  others_kept : (i : ℕ) → T (not (any_of (eqb i) (read_places q))) → get_or buffer i 0 ≡ get_or begun i 0
  others_kept i h = rw (← same_buffer Cs begun) (ran.kept.bytes_in.others i h)

  as_long : length buffer ≡ length begun
  as_long = rw (← same_buffer Cs begun) ran.kept.bytes_in.same_length

  counted : saved.accesses ≡ min (length log) 4294967295
  counted = rw (← same_left, ran.kept.one_run.count) ran.kept.accesses

  -- and the bytes put out are carried, by a manual write in a number of its own
  carried_out : T (manual_write ran.call) → saved.out ≡ min (length (put_out log)) (length begun + 1)
  carried_out t = rw (← same_left) (ran.kept.carried.manual_write_holds t)

  carried_byte : T (transmits ran.call) → T (not (manual ran.call)) → saved.byte ≡ min (length (put_out log)) (length begun + 1)
  carried_byte t n = rw (← same_left) (ran.kept.carried.automatic t n)

  none_carried : T (not (manual_write ran.call)) → saved.out ≡ 0
  none_carried n = rw (← same_left) (ran.kept.carried.none n)

  -- an event says the address that stands in the log
  event_address : (reads : Bool) (n : ℕ) → saved.step ≡ Ended → saved.outcome ≡ cond reads (EventRead n) (EventWrite n) →
      n ≡ address_by (status_in log) (reads_of Oar1 log)
  event_address reads n ended event = (ran.kept.events reads n (record { ended = rw same_left ended; outcome = rw same_left event })).address

  module _ (n : ℕ) (ended : saved.step ≡ Ended) (done : saved.outcome ≡ Done n) where
    ended_as : EndedAs (Done n) (left q begun (As Cs) log)
    ended_as = record { ended = rw same_left ended; outcome = rw same_left done }

    all_sent : T (transaction ran.call) → put_out log ≡ caller_bytes q begun
    all_sent t = ran.kept.bytes_out.done t n ended_as

    all_received : T (transaction ran.call) → bytes_at buffer (read_places q) ≡ taken_in log
    all_received t = rw (← same_buffer Cs begun) (ran.kept.bytes_in.done t n ended_as)

    count_received : T (receives ran.call) → n ≡ length (taken_in log)
    count_received = (ran.kept.count n ended_as).received

    count_sent : T (transmits ran.call) → n ≡ min (length (put_out log) - 1) (length begun)
    count_sent = (ran.kept.count n ended_as).transmitted

  -- any one of the calls
  module _ (before : List AdvanceCall) (C : AdvanceCall) (after : List AdvanceCall) (among : Cs ≡ before ++ C ∷ after) where
    exact : ReadExactly (advancing C)
    exact = exact_at before C after (rw among at demand.exactly)

    -- lent the begun description it is not refused
    not_refused : (advancing C).description ≡ (beginning B).description → (advancing C).operations ≡ (beginning B).operations →
        length (advancing C).buffer ≡ length begun → T (not (eqb C.gave refused_number))
    not_refused e f g =
        let h = none_refused_at _ _ _ before C after (rw among at ran.kept.one_run.accepted) in
        rw (← same_refusal (advancing C)) (h (ap description_of e) (ap operations_in f) g)

    -- refused it uses nothing, and leaves each byte
    uses_nothing : C.gave ≡ refused_number → ((answer_of (advancing C)).used ≡ 0) × ((answer_of (advancing C)).written ≡ 0)
    uses_nothing e =
        let h : T (advances.refused (as_advance (advancing C))) = rw (same_refusal (advancing C), e) tt in
        let t = subst (λ (Xs : List AdvanceCall). RefusedUntouched (As Xs) (begin_of q)) among ran.kept.one_run.untouched in
        let u = untouched_at (begin_of q) before C after t h in
        (u.used, u.written)

    leaves_each_byte : C.gave ≡ refused_number →
        ((advancing C).saved_left ≡ (advancing C).saved) × ((advancing C).buffer_left ≡ (advancing C).buffer) × ((advancing C).log_left ≡ (advancing C).log)
    leaves_each_byte e =
        let h : T (says_refused (advancing C)) = rw e tt in
        (exact.refused_saved h, exact.refused_buffer h, exact.refused_log h)

    past_its_entries : drop (8 * (answer_of (advancing C)).written) (advancing C).log_left ≡ drop (8 * (answer_of (advancing C)).written) (advancing C).log
    past_its_entries = exact.others

  -- the last of the calls, if it was not refused, says the outcome just if the run has ended
  module _ (before : List AdvanceCall) (C : AdvanceCall) (is_last : Cs ≡ before ++ C ∷ []) (n : T (not (says_refused (advancing C)))) where
    came : Came q saved buffer (as_advance (advancing C))
    came =
        let e : last_accepted (As Cs) ≡ last (as_advance (advancing C)) = rw is_last (the_last before C n) in
        rw (e, same_left, same_buffer Cs begun) at ran.kept.one_run.came

    exact_last : ReadExactly (advancing C)
    exact_last = exact before C [] is_last

    says_outcome : T (same_step saved.step Ended) → (C.gave ≡ outcome_number saved.outcome) × ((answer_of (advancing C)).value ≡ outcome_value saved.outcome)
    says_outcome h = go came
      where
        go : Came q saved buffer (as_advance (advancing C)) → (C.gave ≡ outcome_number saved.outcome) × ((answer_of (advancing C)).value ≡ outcome_value saved.outcome)
        go (over _ r) = (exact_last.report ∙ ap report_number r, exact_last.value ∙ ap report_value r)
        go (full m _ _) = absurd (T_not (same_step saved.step Ended) m h)
        go (waiting _ m _ _ _ _) = absurd (T_not (same_step saved.step Ended) m h)

    says_full_or_waiting : T (not (same_step saved.step Ended)) → T (eqb C.gave full_number || eqb C.gave waiting_number)
    says_full_or_waiting h = go came
      where
        go : Came q saved buffer (as_advance (advancing C)) → T (eqb C.gave full_number || eqb C.gave waiting_number)
        go (over e _) = absurd (T_not (same_step saved.step Ended) h e)
        go (full _ _ r) = (let e : C.gave ≡ full_number = exact_last.report ∙ ap report_number r in rw e tt)
        go (waiting _ _ _ _ _ r) = (let e : C.gave ≡ waiting_number = exact_last.report ∙ ap report_number r in rw e tt)

    -- full: every place of its log is used; waiting: a place is left, every answer is used, and the next access is a read of the
    -- register that is named
    says_full : C.gave ≡ full_number → (answer_of (advancing C)).written ≡ length (advancing C).log / 8
    says_full e = go came
      where
        go : Came q saved buffer (as_advance (advancing C)) → (answer_of (advancing C)).written ≡ length (advancing C).log / 8
        go (over _ r) = (let r' : Full ≡ Over saved.outcome = rw e at r in let z : ◌≡◌ {A = ℕ} 0 1 = cc in absurd (omega arith))
        go (full _ w _) = omega (arith, in_words (advancing C).log)
        go (waiting k _ _ _ _ r) = (let r' : Full ≡ Waiting k = rw e at r in let z : ◌≡◌ {A = ℕ} 0 1 = cc in absurd (omega arith))

    says_waiting : C.gave ≡ waiting_number →
        ((answer_of (advancing C)).written < length (advancing C).log / 8) × ((answer_of (advancing C)).used ≡ length (advancing C).answers / 4)
        × Awaits (next_of (access_of q buffer saved)) (answer_of (advancing C)).awaited
    says_waiting e = go came
      where
        go : Came q saved buffer (as_advance (advancing C)) →
            ((answer_of (advancing C)).written < length (advancing C).log / 8) × ((answer_of (advancing C)).used ≡ length (advancing C).answers / 4)
            × Awaits (next_of (access_of q buffer saved)) (answer_of (advancing C)).awaited
        go (over _ r) =
            (let r' : Waiting (register_in registers (answer_of (advancing C)).awaited) ≡ Over saved.outcome = rw e at r in
            let z : ◌≡◌ {A = ℕ} 0 1 = cc in absurd (omega arith))
        go (full _ _ r) =
            (let r' : Waiting (register_in registers (answer_of (advancing C)).awaited) ≡ Full = rw e at r in
            let z : ◌≡◌ {A = ℕ} 0 1 = cc in absurd (omega arith))
        go (waiting k _ w h u r) = (
          omega (arith, in_words (advancing C).log),
          u ∙ in_words (advancing C).answers,
          record { register = k; read = h; offset = exact_last.awaited ∙ ap awaited_of r },
        )

-- after a begin that returned a refusal's number
abbrev Refusals : List AdvanceCall → Type 0
Refusals [] = Unit {0}
Refusals (C ∷ Cs) = (C.gave ≡ refused_number) × Refusals Cs

same_refusals : (Cs : List AdvanceCall) → AllRefused (As Cs) → Refusals Cs
same_refusals [] h = tt
same_refusals (C ∷ Cs) h = (eqb→eq C.gave refused_number (rw (same_refusal (advancing C)) at h.0), same_refusals Cs h.1)

no_answers : (Cs : List AdvanceCall) (s : SavedCall) → AllRefused (As Cs) → RefusedUntouched (As Cs) s → answers_used Cs ≡ []
no_answers [] s h u = refl
no_answers (C ∷ Cs) s h u = rw (u.0 h.0).used (no_answers Cs _ h.1 u.1)

module _ (B : BeginCall) (Cs : List AdvanceCall) (z : 0 < B.gave)
    (l : Linked (beginning B).description (beginning B).operations Cs (beginning B).saved_left (beginning B).buffer) where
  no_demand : BoundaryDemand3 (beginning B) (map advancing Cs)
  no_demand = boundary_demand_3 B Cs (in_turn _ _ Cs _ _ l)

  abbrev none : NoRun (beginning B).buffer (As Cs)
  none = no_demand.refused (rw (ne_eqb B.gave 0 (omega arith)) tt)

  all_refused : Refusals Cs
  all_refused = same_refusals Cs none.refused

  none_used : answers_used Cs ≡ []
  none_used = no_answers Cs no_call none.refused none.untouched

  no_entries : log_bytes Cs ≡ []
  no_entries = sym (same_log Cs no_demand.exactly) ∙ ap bytes_of none.joined

  buffer_kept : last_buffer Cs (beginning B).buffer ≡ (beginning B).buffer
  buffer_kept = sym (same_buffer Cs (beginning B).buffer) ∙ none.buffer

  none_made : made (As Cs) ≡ 0
  none_made = none.made
