-- The words that are left, put where the text stands, are the whole.
use Rattle.std.proofs.Common.{◌≡◌, drop}
use Rattle.window.specs.Window.{laid, emit_of}
use Rattle.benchfile.specs.Calls.{low_bytes}
use Rattle.benchfile.proofs.buffer.put_bytes.Given as goal

abbrev pub invariant-loop-w : goal.invariant-loop-w
invariant-loop-w l = emit_of (low_bytes (drop l.w-index l.words)) (laid l.q l.out) ≡ emit_of (low_bytes l.words) (laid l.initial.q l.initial.out)
