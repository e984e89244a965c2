-- The buffer that was laid out, as far as there is room, is the one that is lent.
use Rattle.std.proofs.Common.{ℕ, List, replicate, ap, ◌∙◌}
use Rattle.std.proofs.lemmas.List.{length-replicate}
use Rattle.benchfile.specs.Calls.{whole_buffer}
use Rattle.drive.specs.Drive.{run_for}
use Rattle.window.proofs.Laid.{room, counted}
use Rattle.bench.specs.Text.{told_by}
use Rattle.bench.proofs.Texts.{lent}
use Rattle.bench.proofs.call.tell_call.Goals as goal

pub slice_bounds-room-end : goal.slice_bounds-room-end
slice_bounds-room-end c = room (whole_buffer c.args.n c.args.a c.args.head.now) (replicate 65536 0) c.lay-size.result c.lay-size.new.out c.lay-size.ensures

pub slice_bounds-tell-end : goal.slice_bounds-tell-end
slice_bounds-tell-end c = counted (whole_buffer c.args.n c.args.a c.args.head.now) (replicate 65536 0) c.lay-size.result c.lay-size.new.out c.lay-size.ensures

pub returns : goal.returns
returns c =
    let job = c.args.job in
    c.tell.ensures
    ∙ ap (λ (b : List ℕ). told_by (run_for job.description job.operations.now b job.answers.now))
    (lent (whole_buffer c.args.n c.args.a c.args.head.now) (replicate 65536 0) c.lay-size.result c.lay-size.new.out c.lay-size.ensures (length-replicate {A = ℕ} 65536 0))
