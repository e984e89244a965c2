-- The lines of the entries that are left, put where the text stands, are the whole.
use Rattle.std.proofs.Common.{◌≡◌, length}
use Rattle.window.specs.Window.{laid, emit_of}
use Rattle.lines.specs.Lines.{access_lines}
use Rattle.lines.proofs.put_accesses.Given as goal

abbrev pub invariant-loop-rest : goal.invariant-loop-rest
invariant-loop-rest l = emit_of (access_lines l.rest) (laid l.q l.out) ≡ emit_of (access_lines l.log) (laid l.initial.q l.initial.out)

abbrev pub decreases-loop-rest : goal.decreases-loop-rest
decreases-loop-rest l = length l.rest
