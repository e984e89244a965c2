-- The bytes that are left, put where the text stands, are the whole.
use Rattle.std.proofs.Common.{◌≡◌, drop}
use Rattle.window.specs.Window.{laid, emit_of}
use Rattle.lines.specs.Lines.{bytes_text}
use Rattle.lines.proofs.put_bytes.Given as goal

abbrev pub invariant-loop-b : goal.invariant-loop-b
invariant-loop-b l = emit_of (bytes_text (drop l.b-index l.bytes)) (laid l.q l.out) ≡ emit_of (bytes_text l.bytes) (laid l.initial.q l.initial.out)
