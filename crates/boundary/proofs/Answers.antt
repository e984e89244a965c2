-- What an advance gives, from the contracts of what it calls. Assumes nothing.
use Prim.Native.Nat.{ℕ, ◌*◌, ◌/◌}
use native.Mathlib.Omega.{arith}
use mathlib.Core.Path.{◌≡◌, ap, ◌∙◌}
use mathlib.Core.Bool.{Bool, true, false, cond}
use mathlib.Core.List.{List}
use lib.ListN.{length, take}
use borrow.Author.Tests.{le-leb}
use Rattle.calls.proofs.Cut.{two_each}
use Rattle.calls.proofs.Joined.{within}
use Rattle.calls.specs.Advances.{is_refusal}
use Rattle.calls.specs.Joined.{Reached, as_reached, reached_by}
use Rattle.calls.specs.Outcomes.{report_number}
use Rattle.calls.specs.Run.{Run, words_of, run_of}
use Rattle.calls.specs.declared.Advanced.{Advanced}
use Rattle.calls.specs.declared.Description.{Description}
use Rattle.calls.specs.declared.Report.{Report}
use Rattle.calls.specs.declared.SavedCall.{SavedCall}
use Rattle.saved.specs.Saved.{saved_in, written_to}
use Rattle.words.proofs.Turns.{decoded_words}
use Rattle.words.specs.Words.{words_in, as_decoded, decoded_of, put_words}
use Rattle.boundary.specs.Calls.{operations_in, log_after, numbers_of, answer_for, as_advance_left, advance_left_in}
use Rattle.advance_bytes.specs.Pieces.{in_bytes}

-- the list that 65 words have room for
module _ (bytes words : List ℕ) (n : ℕ) (words' : List ℕ) (long : length words ≡ 65)
    (decoded : as_decoded n words' ≡ decoded_of 0 bytes words) where
  pub listed : take n words' ≡ operations_in bytes
  listed = decoded_words 0 bytes words n words' decoded ∙ rw long

-- ---- what an advance gives, where it came to C
module _ (d : Description) (ops saved b answers log : List ℕ) (t : Advanced) (b' log' : List ℕ)
    (C : as_reached t b' log' ≡ reached_by in_bytes (run_of d ops (length log / 8) (saved_in saved) b (words_in answers)) log) where
  abbrev R : Run
  R = run_of d ops (length log / 8) (saved_in saved) b (words_in answers)

  whole_log : log' ≡ log_after R.entries log
  unfolding put_words
  whole_log =
      let n = two_each R.entries in
      let i = (within d ops (length log / 8) (saved_in saved) b (words_in answers)).entries in
      let e : 4 * length (words_of R.entries) ≡ 8 * length R.entries = omega arith in
      ap (λ (G : Reached (List ℕ)). G.out) C ∙ rw (le-leb (4 * length (words_of R.entries)) (length log) (omega arith), e)

  pub advances : (report : ℕ) (answer saved' : List ℕ) →
      report ≡ report_number t.report → answer ≡ numbers_of (answer_for t.report t.used t.written) →
      saved' ≡ cond (is_refusal t.report) saved (written_to saved t.saved) →
      as_advance_left report answer saved' b' log' ≡ advance_left_in d ops saved b answers log
  advances report answer saved' e f g =
      let r : t.report ≡ R.report = ap (λ (G : Reached (List ℕ)). G.advanced.report) C in
      let s : t.saved ≡ R.saved = ap (λ (G : Reached (List ℕ)). G.advanced.saved) C in
      let u : t.used ≡ R.used = ap (λ (G : Reached (List ℕ)). G.advanced.used) C in
      let w : t.written ≡ length R.entries = ap (λ (G : Reached (List ℕ)). G.advanced.written) C in
      rw (e, f, g, r, s, u, w, whole_log, ap (λ (G : Reached (List ℕ)). G.buffer) C)

-- ---- the saved call: left as it is by a refusal, and else written
module _ (r : Bool) (report : Report) (saved : List ℕ) (is : r ≡ is_refusal report) where
  pub left : r ≡ true → (next : SavedCall) → saved ≡ cond (is_refusal report) saved (written_to saved next)
  left e next = rw (← is, e)

  pub kept : r ≡ false → (next : SavedCall) (saved' : List ℕ) → saved' ≡ written_to saved next →
      saved' ≡ cond (is_refusal report) saved (written_to saved next)
  kept e next saved' f = rw (← is, e) f
