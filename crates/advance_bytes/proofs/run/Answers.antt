-- The first piece, and the rest of the run where that was full. Assumes nothing.
use Rattle.std.proofs.Common.{arith, ◌-◌, ◌/◌, ◌∙◌, sym, refl, length}
use Rattle.calls.specs.Joined.{not_yet}
use Rattle.words.specs.Words.{words_in}
use Rattle.advance_bytes.proofs.Pieces.{turn_used, turn_written, turn_ends, turn_goes, first_whole}
use Rattle.advance_bytes.proofs.run.Goals as goal

pub rest-requires : goal.rest-requires
rest-requires c =
    let a = c.args in
    let p = c.piece-t in (
      turn_used a.d a.ops.now a.answers.now (not_yet a.saved) a.buffer.now a.log.now p.result p.new.buffer p.new.log 8 (length a.log.now / 8 - 0)
          p.ensures refl p.auto.log (omega arith) (omega arith),
      turn_written a.d a.ops.now a.answers.now (not_yet a.saved) a.buffer.now a.log.now p.result p.new.buffer p.new.log 8 (length a.log.now / 8 - 0)
          p.ensures refl p.auto.log (omega arith),
    )

pub returns-then-is_full : goal.returns-then-is_full
returns-then-is_full c =
    let a = c.args in
    let p = c.piece-t in
    c.rest.ensures
    ∙ turn_goes a.d a.ops.now a.answers.now (not_yet a.saved) a.buffer.now a.log.now p.result p.new.buffer p.new.log 8 (length a.log.now / 8 - 0)
    p.ensures refl p.auto.log (omega arith) _ (first_whole a.d a.ops.now (words_in a.answers.now) a.saved a.buffer.now a.log.now)
    (sym c.is_full.ensures ∙ c.if-is_full.true)

pub returns : goal.returns
returns c =
    let a = c.args in
    let p = c.piece-t in
    turn_ends a.d a.ops.now a.answers.now (not_yet a.saved) a.buffer.now a.log.now p.result p.new.buffer p.new.log 8 (length a.log.now / 8 - 0)
    p.ensures refl p.auto.log (omega arith) _ (first_whole a.d a.ops.now (words_in a.answers.now) a.saved a.buffer.now a.log.now)
    (sym c.is_full.ensures ∙ c.if-is_full.false)
