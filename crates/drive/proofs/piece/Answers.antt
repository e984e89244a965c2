-- An advance over 512 places, by what it was given and by what it gave.
use Rattle.std.proofs.Common.{ℕ, ◌-◌, ◌<◌, [], append-nil, sym, arith, rules, length, replicate, take, drop, length-take, length-drop}
use Rattle.std.proofs.lemmas.List.{length-replicate}
use Rattle.calls.proofs.Reached.{few, some_used, in_log, counted, added}
use Rattle.window.specs.Window.{laid}
use Rattle.drive.specs.Drive.{in_lines}
use Rattle.drive.proofs.Pieces.{all_left}
use Rattle.drive.proofs.piece.Goals as goal

pub overflow_mul-log : goal.overflow_mul-log
overflow_mul-log c =
    let job = c.args.job in
    let t = c.args.t.advanced in
    record { fits = omega (arith, few job.description job.operations.now t c.args.buffer.now (take (length job.answers.now - t.used) (drop t.used job.answers.now)) (replicate 1024 0) c.advance-a.result _ _ c.advance-a.ensures, length-replicate {A = ℕ} 1024 0) }

pub overflow_add-result : goal.overflow_add-result
overflow_add-result c =
    let job = c.args.job in
    let t = c.args.t.advanced in
    let h = some_used job.description job.operations.now t c.args.buffer.now (take (length job.answers.now - t.used) (drop t.used job.answers.now)) (replicate 1024 0) c.advance-a.result _ _ c.advance-a.ensures in
    let fewer = simp (length-take, length-drop) at h in
    let most : length job.answers.now < 18446744073709551616 = search rules in
    record { fits = omega (arith, fewer, most, c.requires.0) }

pub overflow_add-result-2 : goal.overflow_add-result-2
overflow_add-result-2 c =
    let job = c.args.job in
    let t = c.args.t.advanced in
    record { fits = omega (arith, few job.description job.operations.now t c.args.buffer.now (take (length job.answers.now - t.used) (drop t.used job.answers.now)) (replicate 1024 0) c.advance-a.result _ _ c.advance-a.ensures, length-replicate {A = ℕ} 1024 0, c.requires.1) }

pub slice_bounds-log-end : goal.slice_bounds-log-end
slice_bounds-log-end c =
    let job = c.args.job in
    let t = c.args.t.advanced in
    in_log job.description job.operations.now t c.args.buffer.now (take (length job.answers.now - t.used) (drop t.used job.answers.now)) (replicate 1024 0) c.advance-a.result _ _ c.advance-a.ensures c.advance-a.new.log [] (sym (append-nil c.advance-a.new.log))

pub slice_bounds-put_log-end : goal.slice_bounds-put_log-end
slice_bounds-put_log-end c =
    let job = c.args.job in
    let t = c.args.t.advanced in
    counted job.description job.operations.now t c.args.buffer.now (take (length job.answers.now - t.used) (drop t.used job.answers.now)) (replicate 1024 0) c.advance-a.result _ _ c.advance-a.ensures c.advance-a.new.log [] (sym (append-nil c.advance-a.new.log))

pub returns : goal.returns
returns c =
    let job = c.args.job in
    let t = c.args.t.advanced in
    added job.description job.operations.now t c.args.buffer.now (take (length job.answers.now - t.used) (drop t.used job.answers.now)) (replicate 1024 0) c.advance-a.result _ _ c.advance-a.ensures c.advance-a.new.log [] (sym (append-nil c.advance-a.new.log))
    (in_lines c.args.form) (laid c.args.t.place c.args.out.now) _ c.put_log.ensures job.answers.now 512 (all_left t.used job.answers.now) (omega (arith, length-replicate {A = ℕ} 1024 0))
