-- The call's line, and then what it shows.
use Rattle.window.specs.Window.{laid}
use Rattle.bench.proofs.Texts.{called}
use Rattle.bench.proofs.call.put_call.Goals as goal

pub returns : goal.returns
returns c =
    called c.args.form c.args.n c.args.a c.args.head.now c.args.answers.now c.plain-like.result c.describe.result c.operations.result.now c.tell_call-told.result
    (laid c.args.p c.args.out.now) (laid c.put_call-p.result c.put_call-p.new.out) (laid c.show_call.result c.show_call.new.out)
    c.plain-like.ensures c.describe.ensures c.operations.ensures c.tell_call-told.ensures c.put_call-p.ensures c.show_call.ensures
