-- A piece leaves less of the run, and comes to what the whole of it comes to. Assumes nothing.
use Rattle.std.proofs.Common.{arith, ◌≡◌, ◌-◌, ◌/◌, ◌∙◌, sym, refl, length, true}
use Rattle.calls.proofs.Reached.{some_left}
use Rattle.calls.specs.Joined.{is_full, as_reached}
use Rattle.words.specs.Words.{words_in}
use Rattle.advance_bytes.proofs.Pieces.{turn_used, turn_written, turn_smaller, turn_left}
use Rattle.advance_bytes.specs.Pieces.{in_bytes}
use Rattle.advance_bytes.proofs.rest.Goals as goal

pub loop-d-smaller : goal.loop-d-smaller
loop-d-smaller c =
    let a = c.args in
    let i = c.loop-d in
    let p = c.piece-t in
    let full : is_full i.t.report ≡ true = sym c.is_full.ensures ∙ c.loop-d-test.true in
    rw full
    (turn_smaller a.d a.ops.now a.answers.now i.t i.buffer i.log p.result p.new.buffer p.new.log (length i.entries / 2) (length i.log / 8 - i.t.written)
    p.ensures refl p.auto.log i.invariant.written (omega (arith, i.invariant.places)) (omega (arith, c.if-t-log.true)))

pub loop-d-preserved : goal.loop-d-preserved
loop-d-preserved c =
    let a = c.args in
    let i = c.loop-d in
    let p = c.piece-t in
    let full : is_full i.t.report ≡ true = sym c.is_full.ensures ∙ c.loop-d-test.true in
    record {
      used =
          turn_used a.d a.ops.now a.answers.now i.t i.buffer i.log p.result p.new.buffer p.new.log (length i.entries / 2) (length i.log / 8 - i.t.written)
          p.ensures refl p.auto.log i.invariant.written i.invariant.used;
      written =
          turn_written a.d a.ops.now a.answers.now i.t i.buffer i.log p.result p.new.buffer p.new.log (length i.entries / 2) (length i.log / 8 - i.t.written)
          p.ensures refl p.auto.log i.invariant.written;
      room = omega (arith, p.auto.entries, p.auto.window, i.invariant.room);
      places = omega (arith, p.auto.entries, i.invariant.places);
      whole =
          turn_left a.d a.ops.now a.answers.now i.t i.buffer i.log p.result p.new.buffer p.new.log (length i.entries / 2) (length i.log / 8 - i.t.written)
          p.ensures refl p.auto.log i.invariant.written _
          (some_left in_bytes a.d a.ops.now (words_in a.answers.now) (as_reached i.t i.buffer i.log) _ (length i.log / 8 - i.t.written)
          (omega (arith, c.if-t-log.true)) full i.invariant.whole);
    }
