-- What an advance leaves is what its run comes to. Assumes nothing.
use Rattle.std.proofs.Common.{◌≡◌, ◌/◌, ◌∙◌, ap, length, cond}
use Rattle.advance_bytes.specs.Pieces.{in_bytes}
use Rattle.calls.specs.Advances.{is_refusal}
use Rattle.calls.specs.Joined.{reached_by}
use Rattle.calls.specs.Run.{run_of}
use Rattle.calls.specs.declared.SavedCall.{SavedCall}
use Rattle.saved.specs.Saved.{written_to}
use Rattle.words.specs.Words.{words_in}
use Rattle.boundary.proofs.Answers.{advances, kept, left}
use Rattle.boundary.proofs.call.advance.Goals as goal
use Rattle.boundary.proofs.call.advance.Goals.{then-not-is_refusal, else-not-is_refusal}

pub returns : goal.returns
returns c =
    let a = c.args in
    let far = c.run-far in
    let saved : c.if-not-is_refusal.saved ≡ cond (is_refusal far.result.report) a.saved.now (written_to a.saved.now far.result.saved) =
    elim c.if-not-is_refusal.branch [
      | then-not-is_refusal w ↦ kept _ _ _ c.is_refusal.ensures w.if-not-is_refusal.true _ _ (w.saved-is ∙ w.write.ensures)
      | else-not-is_refusal w ↦ w.saved-is ∙ left _ _ _ c.is_refusal.ensures w.if-not-is_refusal.false _
    ] in
    advances a.d a.ops.now a.saved.now a.buffer.now a.answers.now a.log.now far.result _ _
    (far.ensures ∙ ap (λ (s : SavedCall). reached_by in_bytes (run_of a.d a.ops.now (length a.log.now / 8) s a.buffer.now (words_in a.answers.now)) a.log.now) c.read-call.ensures)
    _ _ _ c.number.ensures c.answer_for.ensures saved
