-- The accesses are shown, and then the buffer.
use Rattle.bench.proofs.Texts.{shown}
use Rattle.window.specs.Window.{laid}
use Rattle.drive.specs.Drive.{run_for}
use Rattle.bench.proofs.call.show.Goals as goal

pub returns : goal.returns
returns c =
    let job = c.args.job in
    shown c.args.form c.args.n c.drive-t.result c.drive-t.new.buffer c.drive-t.new.out (run_for job.description job.operations.now c.args.buffer.now job.answers.now)
    (laid c.args.p c.args.out.now) _ c.drive-t.ensures c.put_buffer.ensures
