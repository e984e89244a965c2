-- Reading and writing a saved call undo each other. Assumes nothing.
use Rattle.std.specs.Prelude.{Option, Some, None}
use Prim.Native.Nat.{ℕ, ◌<◌}
use native.Mathlib.Omega.{arith}
use mathlib.Core.Path.{◌≡◌, refl, sym, ap, ◌∙◌}
use mathlib.Core.Bool.{Bool, false, not, ◌&&◌}
use mathlib.Core.List.{List, [], ◌∷◌, map}
use lib.Dec.{T, eqb, eqb→eq, ltb, ltb→lt, lit<}
use lib.ListN.{length}
use borrow.Author.Tests.{eq-eqb}
use Rattle.fields.proofs.Laws.{and_l, and_r}
use Rattle.calls.proofs.Every.{is_eq, every_step}
use Rattle.calls.proofs.Logic.{by_test, is_true}
use Rattle.calls.specs.Bytes.{range}
use Rattle.calls.specs.Outcomes.{outcome_number, outcome_value}
use Rattle.calls.specs.Run.{no_call}
use Rattle.calls.specs.Steps.{step_number, same_step}
use Rattle.calls.specs.declared.Outcome.{Outcome}
use Rattle.calls.specs.declared.Outcome.TheVariants.{Done, Bus, Arbitration, Nack, Stopped, ExpectedWrite, ExpectedRead, EventRead, EventWrite, EventStop}
use Rattle.calls.specs.declared.SavedCall.{SavedCall}
use Rattle.calls.specs.declared.Step.{Step}
use Rattle.words.specs.Words.{Below, words_in, word_at, bytes_of}
use Rattle.words.proofs.Round.{words_back, whole_words}
use Rattle.saved.proofs.Numbered.{Numbered, number_back}
use Rattle.saved.specs.Range.{OfWords}
use Rattle.saved.specs.Saved.{step_at, outcome_in, outcomes, outcome_at, outcome_place, value_place, step_place, saved_words, saved_count, saved_length, saved_bytes, is_outcome, is_step, is_saved, outcome_of, step_of, saved_with, saved_in}

-- ---- steps
abbrev found : Step → Option Step → Bool
found t (Some u) = same_step u t
found t None = false

the_step : (t : Step) (f : Option Step) → T (found t f) → f ≡ Some t
the_step t (Some u) h = ap Some (is_eq u t h)
the_step t None h = absurd h

step_back : (t : Step) → step_at (step_number t) ≡ Some t
unfolding step_at
step_back t = the_step t (step_at (step_number t)) (every_step (λ u. found u (step_at (step_number u))) tt t)

-- ---- outcomes
outcome_back : (o : Outcome) → outcome_at (outcome_number o) (outcome_value o) ≡ Some o
unfolding outcome_at
outcome_back (Done n) = rw (eq-eqb n n refl)
outcome_back Bus = refl
outcome_back Arbitration = refl
outcome_back Nack = refl
outcome_back Stopped = refl
outcome_back ExpectedWrite = refl
outcome_back ExpectedRead = refl
outcome_back (EventRead n) = rw (eq-eqb n n refl)
outcome_back (EventWrite n) = rw (eq-eqb n n refl)
outcome_back EventStop = refl

abbrev Valued : ℕ → ℕ → Option Outcome → Type 0
Valued n v (Some o) = (outcome_number o ≡ n) × (outcome_value o ≡ v)
Valued n v None = Unit {0}

outcome_in_holds : (os : List Outcome) (n v : ℕ) → Valued n v (outcome_in os n v)
outcome_in_holds [] n v = tt
outcome_in_holds (o ∷ os) n v =
    by_test (Valued n v) (eqb n (outcome_number o))
    (λ h.
    by_test (Valued n v) (eqb v (outcome_value o))
    (λ g. (sym (eqb→eq n (outcome_number o) h), sym (eqb→eq v (outcome_value o) g)))
    (λ _. tt))
    (λ _. outcome_in_holds os n v)

value_back : (n v : ℕ) → Valued n v (outcome_at n v)
unfolding outcome_at
value_back n v = outcome_in_holds (outcomes v) n v

-- ---- saved calls
number_below : (o : Outcome) → outcome_number o < 4294967296
number_below (Done n) = lit< tt
number_below Bus = lit< tt
number_below Arbitration = lit< tt
number_below Nack = lit< tt
number_below Stopped = lit< tt
number_below ExpectedWrite = lit< tt
number_below ExpectedRead = lit< tt
number_below (EventRead n) = lit< tt
number_below (EventWrite n) = lit< tt
number_below EventStop = lit< tt

step_below : (t : Step) → step_number t < 4294967296
step_below t = ltb→lt (step_number t) 4294967296 (every_step (λ u. ltb (step_number u) 4294967296) tt t)

words_below : (s : SavedCall) → OfWords s → Below 4294967296 (saved_words s)
words_below s h = search (arith, number_below s.outcome, step_below s.step)

-- reading what was written gives it back
pub read_written : (s : SavedCall) → OfWords s → saved_in (saved_bytes s) ≡ s
unfolding saved_in saved_bytes
read_written s h =
    let w = words_back (saved_words s) (words_below s h) in
    rw (w, outcome_back s.outcome, step_back s.step, w)

-- bytes of that length are their words by place
by_place : (b : List ℕ) → length b ≡ saved_length → words_in b ≡ map (word_at b) (range 0 saved_count)
unfolding words_in
by_place b h = rw h

read_words : (b : List ℕ) (f : Option Step) (g : Option Outcome) → T (is_step f && is_outcome g) →
    Numbered (word_at b step_place) f → Valued (word_at b outcome_place) (word_at b value_place) g →
    saved_words (saved_with b f g) ≡ map (word_at b) (range 0 saved_count)
read_words b (Some t) (Some o) h p q = rw (p, q.0, q.1)
read_words b (Some t) None h p q = absurd h
read_words b None g h p q = absurd h

-- writing what was read gives the bytes back
pub written_read : (b : List ℕ) → T (is_saved b) → Below 256 b → saved_bytes (saved_in b) ≡ b
unfolding is_saved saved_in saved_bytes
written_read b h u =
    let l : length b ≡ saved_length = eqb→eq (length b) saved_length (and_l (eqb (length b) saved_length) _ h) in
    let w = and_r (eqb (length b) saved_length) (is_step (step_of b) && is_outcome (outcome_of b)) h in
    let f = read_words b (step_of b) (outcome_of b) w (number_back _) (value_back _ _) in
    rw (eq-eqb (length b) saved_length l) (ap bytes_of (f ∙ sym (by_place b l)) ∙ whole_words saved_count b l u)

-- so two saved calls are never written the same
pub same_bytes : (s t : SavedCall) → OfWords s → OfWords t → saved_bytes s ≡ saved_bytes t → s ≡ t
same_bytes s t h g e = sym (read_written s h) ∙ ap saved_in e ∙ read_written t g

-- and no two strings of bytes are the same one
pub same_saved : (a b : List ℕ) → T (is_saved a) → T (is_saved b) → Below 256 a → Below 256 b → saved_in a ≡ saved_in b → a ≡ b
same_saved a b h g u w e = sym (written_read a h u) ∙ ap saved_bytes e ∙ written_read b g w

-- what was written is a saved call
pub written_saved : (s : SavedCall) → OfWords s → T (is_saved (saved_bytes s))
unfolding is_saved saved_bytes
written_saved s h = rw (words_back (saved_words s) (words_below s h), outcome_back s.outcome, step_back s.step) tt

-- and bytes that are none are read as what no advance takes
no_parts : (b : List ℕ) (f : Option Step) (g : Option Outcome) → T (not (is_step f && is_outcome g)) → saved_with b f g ≡ no_call
no_parts b (Some t) (Some o) h = absurd h
no_parts b (Some t) None h = refl
no_parts b None g h = refl

pub none_read : (b : List ℕ) → T (not (is_saved b)) → saved_in b ≡ no_call
unfolding is_saved saved_in
none_read b h =
    by_test (λ (s : SavedCall). s ≡ no_call) (eqb (length b) saved_length)
    (λ l. no_parts b (step_of b) (outcome_of b) (rw (is_true (eqb (length b) saved_length) l) at h))
    (λ _. refl)
