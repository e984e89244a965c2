-- What the line says is what the run gave.
use Rattle.bench.proofs.Texts.{told}
use Rattle.drive.specs.Drive.{run_for}
use Rattle.lines.specs.declared.Form.TheVariants.{Lines}
use Rattle.bench.proofs.call.tell.Goals as goal

pub returns : goal.returns
returns c =
    let job = c.args.job in
    told Lines c.drive-t.result c.drive-t.new.buffer c.drive-t.new.out (run_for job.description job.operations.now c.args.buffer.now job.answers.now) _ c.drive-t.ensures
