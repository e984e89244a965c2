-- The buffer by the two tests: whether the call has one to show, and whether it was refused.
use Rattle.lines.specs.Lines.{buffer_line}
use Rattle.window.specs.Window.{laid}
use Rattle.bench.proofs.Texts.{buffer_shown, refused_shows_none, other_shows_none}
use Rattle.bench.proofs.call.put_buffer.Goals as goal
use Rattle.bench.proofs.call.put_buffer.Goals.{else-shows_buffer-via-then-shows_buffer+else-not-is_refusal, else-shows_buffer-via-else-shows_buffer}

pub returns-then-not-is_refusal : goal.returns-then-not-is_refusal
returns-then-not-is_refusal c =
    buffer_shown c.args.n c.args.r c.shows_buffer.result c.is_refusal.result (buffer_line c.args.buffer.now) (laid c.args.p c.args.out.now) (laid c.put_buffer.result c.put_buffer.new.out)
    c.shows_buffer.ensures c.if-shows_buffer.true c.is_refusal.ensures c.if-not-is_refusal.true c.put_buffer.ensures

pub returns : goal.returns
returns c =
    let L = laid c.args.p c.args.out.now in
    let x = buffer_line c.args.buffer.now in
    elim c.else-shows_buffer.branch [
      | else-shows_buffer-via-then-shows_buffer+else-not-is_refusal w ↦
          refused_shows_none c.args.n c.args.r c.shows_buffer.result w.is_refusal.result x L L c.shows_buffer.ensures w.if-shows_buffer.true w.is_refusal.ensures w.if-not-is_refusal.false
      | else-shows_buffer-via-else-shows_buffer w ↦
          other_shows_none c.args.n c.args.r c.shows_buffer.result c.shows_buffer.result x L L c.shows_buffer.ensures w.if-shows_buffer.false
    ]
