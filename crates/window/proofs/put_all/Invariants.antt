-- The bytes that are left, put where the text stands, are the whole.
use Rattle.std.proofs.Common.{◌≡◌, drop}
use Rattle.window.specs.Window.{laid, emit_of}
use Rattle.window.proofs.put_all.Given as goal

abbrev pub invariant-loop-b : goal.invariant-loop-b
invariant-loop-b l = emit_of (drop l.b-index l.text) (laid l.q l.out) ≡ emit_of l.text (laid l.initial.q l.initial.out)
