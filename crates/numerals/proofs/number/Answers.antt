-- What the digits read so far and the next one say of the number.
use Rattle.std.proofs.Common.{rules, arith, ◌+◌, ◌*◌, ◌<◌, ◌∙◌}
use Rattle.numerals.proofs.Numbers.{empty, begins, ends, next, stops, over}
use Rattle.numerals.proofs.number.Goals as goal

pub returns-then-is_empty : goal.returns-then-is_empty
returns-then-is_empty c = empty c.args.base c.args.s.now (search rules)

pub loop-b-init : goal.loop-b-init
loop-b-init c = (omega arith, begins c.args.base c.args.s.now (search rules))

pub returns-in_err-d : goal.returns-in_err-d
returns-in_err-d c =
    c.from_residual.ensures ∙ stops c.args.base c.args.s.now c.loop-b.value c.loop-b.b-index c.loop-b.invariant.1 c.loop-b-test.true c.in_err-d.ensures

pub returns-in_err-value : goal.returns-in_err-value
returns-in_err-value c =
    let o : 4294967295 < c.loop-b.value * c.args.base + c.in_ok-d.d = search rules in
    c.from_residual-in_err-value.ensures
    ∙ over c.args.base c.args.s.now c.loop-b.value c.loop-b.b-index c.loop-b.invariant.1 c.loop-b-test.true c.in_ok-d.d c.in_ok-d.ensures.0 c.in_ok-d.ensures.1 (omega arith) o

pub loop-b-preserved : goal.loop-b-preserved
loop-b-preserved c =
    let n = next c.args.base c.args.s.now c.loop-b.value c.loop-b.b-index c.loop-b.invariant.1 c.loop-b-test.true c.in_ok-d.d c.in_ok-d.ensures.0 c.in_ok-d.ensures.1 in
    (search rules, search (rules, n))

pub returns : goal.returns
returns c = ends c.args.base c.args.s.now c.loop-b.value c.loop-b.b-index c.loop-b.invariant.1 (search rules) (search rules)
