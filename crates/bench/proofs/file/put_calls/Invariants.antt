-- The calls that are left, put where the text stands, are the whole.
use Rattle.std.proofs.Common.{◌≡◌, ◌-◌}
use Rattle.window.specs.Window.{laid, emit_of}
use Rattle.bench.specs.Text.{calls_text}
use Rattle.bench.proofs.file.put_calls.Given as goal

abbrev pub invariant-loop : goal.invariant-loop
invariant-loop l = emit_of (calls_text l.form (l.n - l.counter) l.table l.rest) (laid l.q l.out) ≡ emit_of (calls_text l.form l.n l.rows l.bodies) (laid l.initial.q l.initial.out)
