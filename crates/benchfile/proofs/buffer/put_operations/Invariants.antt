-- The operations that are left, put where the text stands with the bytes that are left, are the whole.
use Rattle.std.proofs.Common.{◌≡◌, drop}
use Rattle.window.specs.Window.{laid, emit_of}
use Rattle.benchfile.specs.Calls.{low_bytes, operations_bytes}
use Rattle.benchfile.proofs.buffer.put_operations.Given as goal

abbrev pub invariant-loop-o : goal.invariant-loop-o
invariant-loop-o l =
    emit_of (operations_bytes (drop l.o-index l.ops) (low_bytes l.rest)) (laid l.q l.out)
    ≡ emit_of (operations_bytes l.ops (low_bytes l.bytes)) (laid l.initial.q l.initial.out)
