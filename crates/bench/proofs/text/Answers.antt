-- What was put from the first byte on is what the window shows.
use Rattle.std.proofs.Common.{ap, ◌∙◌}
use Rattle.window.proofs.Laid.{windowed}
use Rattle.window.specs.Window.{laid, emit_of}
use Rattle.window.specs.declared.Cursor.{Cursor}
use Rattle.bench.specs.Text.{file_text}
use Rattle.bench.proofs.Whole.{every_whole}
use Rattle.bench.proofs.text.Goals as goal

pub returns-clause-out_after : goal.returns-clause-out_after
returns-clause-out_after c =
    windowed c.args.from (file_text c.args.form c.args.file.now) c.args.out.now _
    (c.put_file.ensures ∙ ap (λ (p : Cursor). emit_of (file_text c.args.form c.args.file.now) (laid p c.args.out.now)) c.new.ensures)

pub returns-clause-every_whole : goal.returns-clause-every_whole
returns-clause-every_whole c = every_whole c.args.file.now
