-- The bytes that are left, put where the text stands, are the whole.
use Rattle.std.proofs.Common.{◌≡◌, ◌-◌, replicate}
use Rattle.window.specs.Window.{laid, emit_of}
use Rattle.window.proofs.put_repeated.Given as goal

abbrev pub invariant-loop : goal.invariant-loop
invariant-loop l = emit_of (replicate (l.n - l.counter) l.b) (laid l.q l.out) ≡ emit_of (replicate l.n l.b) (laid l.initial.q l.initial.out)
