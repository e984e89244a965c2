-- A piece that is not full is the rest of the run, and after a full one the rest is left.
use Rattle.std.proofs.Common.{◌-◌, ◌*◌, ◌+◌, sym, ◌∙◌, arith}
use Rattle.calls.proofs.Reached.{at_first, none_left}
use Rattle.calls.specs.Run.{run_of}
use Rattle.window.specs.Window.{laid}
use Rattle.drive.specs.Drive.{as_driven, in_lines}
use Rattle.drive.proofs.Pieces.{turn_used, turn_written, turn_ends, turn_goes}
use Rattle.drive.proofs.run.Goals as goal

pub returns-then-not-is_full : goal.returns-then-not-is_full
returns-then-not-is_full c =
    let job = c.args.job in
    turn_ends c.args.form job.description job.operations.now job.answers.now (256 - c.loop.counter) (256 - (c.loop.counter + 1)) (as_driven c.loop.t c.loop.buffer c.loop.out) (as_driven c.piece-t.result c.piece-t.new.buffer c.piece-t.new.out)
    c.piece-t.ensures (omega (arith, c.loop-test.true)) _ c.loop.invariant.full c.loop.invariant.left
    (sym c.is_full.ensures ∙ c.if-not-is_full.true)
    ∙ at_first (in_lines c.args.form) (run_of job.description job.operations.now 131072 c.args.saved c.args.buffer.now job.answers.now) c.args.saved c.args.buffer.now (laid c.args.p c.args.out.now)

pub loop-preserved : goal.loop-preserved
loop-preserved c =
    let job = c.args.job in
    let full = sym c.is_full.ensures ∙ c.if-not-is_full.false in
    record {
      used =
          turn_used c.args.form job.description job.operations.now job.answers.now (256 - c.loop.counter) (256 - (c.loop.counter + 1)) (as_driven c.loop.t c.loop.buffer c.loop.out) (as_driven c.piece-t.result c.piece-t.new.buffer c.piece-t.new.out)
          c.piece-t.ensures (omega (arith, c.loop-test.true)) c.loop.invariant.used;
      written =
          turn_written c.args.form job.description job.operations.now job.answers.now (256 - c.loop.counter) (256 - (c.loop.counter + 1)) (as_driven c.loop.t c.loop.buffer c.loop.out) (as_driven c.piece-t.result c.piece-t.new.buffer c.piece-t.new.out)
          c.piece-t.ensures (omega (arith, c.loop-test.true)) full c.loop.invariant.written;
      full = full;
      left =
          turn_goes c.args.form job.description job.operations.now job.answers.now (256 - c.loop.counter) (256 - (c.loop.counter + 1)) (as_driven c.loop.t c.loop.buffer c.loop.out) (as_driven c.piece-t.result c.piece-t.new.buffer c.piece-t.new.out)
          c.piece-t.ensures (omega (arith, c.loop-test.true)) _ c.loop.invariant.full c.loop.invariant.left full;
    }

pub returns-after-loop : goal.returns-after-loop
returns-after-loop c =
    let job = c.args.job in
    none_left (in_lines c.args.form) job.description job.operations.now job.answers.now (as_driven c.loop.t c.loop.buffer c.loop.out) _ (512 * (256 - c.loop.counter)) (omega (arith, c.loop-test.false)) c.loop.invariant.left
    ∙ at_first (in_lines c.args.form) (run_of job.description job.operations.now 131072 c.args.saved c.args.buffer.now job.answers.now) c.args.saved c.args.buffer.now (laid c.args.p c.args.out.now)
