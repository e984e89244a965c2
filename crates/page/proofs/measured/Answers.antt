-- The entries take so much of the room, one after the other.
use Rattle.std.proofs.Common.{rules, arith, lt_of_not-le, ◌∙◌}
use Rattle.page.proofs.Logs.{measured_all, no_room, next_size}
use Rattle.page.proofs.measured.Goals as goal

pub returns-in_err-left : goal.returns-in_err-left
returns-in_err-left c =
    c.from_residual.ensures
    ∙ no_room c.args.log.now _ _ c.as_chunks.ensures.front c.loop-entry.n c.loop-entry.entry-index c.loop-entry.left c.args.room c.loop-entry.invariant.rest (search rules) _
    _ _ _ c.get.ensures c.get-in-loop-entry.ensures c.size-size.ensures.value (lt_of_not-le c.in_err-left.ensures)

pub loop-entry-preserved : goal.loop-entry-preserved
loop-entry-preserved c = record {
  six_digits = search rules;
  room = omega (arith, c.in_ok-left.ensures.0, c.in_ok-left.ensures.1);
  rest =
      rw c.in_ok-left.ensures.1
      (next_size c.args.log.now _ _ c.as_chunks.ensures.front c.loop-entry.n c.loop-entry.entry-index c.loop-entry.left c.args.room c.loop-entry.invariant.rest (search rules) _
      _ _ _ c.get.ensures c.get-in-loop-entry.ensures c.size-size.ensures.value c.in_ok-left.ensures.0 c.last_digits-n-in-loop-entry.result
      (search rules));
}

pub returns : goal.returns
returns c = search (rules, measured_all)
