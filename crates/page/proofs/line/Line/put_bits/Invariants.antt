-- The bits that are left, put where the text stands, are the whole.
use Rattle.std.proofs.Common.{◌≡◌, ◌-◌}
use Rattle.page.specs.Put.{as_put, tokens_put}
use Rattle.page.specs.Tokens.{bit_tokens}
use Rattle.page.proofs.line.Line.put_bits.Given as goal

abbrev pub invariant-loop-bit : goal.invariant-loop-bit
invariant-loop-bit l =
    tokens_put (bit_tokens l.value l.low (l.bit - l.low)) (as_put l.line l.out)
    ≡ tokens_put (bit_tokens l.value l.low (l.initial.bit - l.low)) (as_put l.initial.line l.initial.out)
