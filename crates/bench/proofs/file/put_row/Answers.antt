-- The call of the row's four words.
use Rattle.bench.proofs.Texts.{rowed}
use Rattle.bench.proofs.file.put_row.Goals as goal

pub returns : goal.returns
returns c =
    rowed c.args.form c.args.rows.now c.args.bodies.now _ _ _ _ _ _ _ _ _
    c.word-n.ensures c.word-a.ensures c.word-head.ensures c.word-answers.ensures c.first.ensures c.after.ensures c.first-2.ensures c.put_call.ensures
