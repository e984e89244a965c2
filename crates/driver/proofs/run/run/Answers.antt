-- What each turn leaves of what both loops go by, and what the whole comes to. Assumes nothing.
use native.Mathlib.Omega.{arith}
use mathlib.Core.Path.{◌≡◌, sym, ap, ◌∙◌}
use Rattle.calls.specs.Refusals.{request_of}
use Rattle.driver.proofs.Accepts.{known_small}
use Rattle.driver.proofs.Pieces.{fit_of}
use Rattle.driver.proofs.Loop.{whole, untouched, ends, kept, goes_on, goes_quick, full}
use Rattle.driver.specs.declared.view.Cursor.{Cursor}
use Rattle.driver.proofs.run.run.Goals as goal
use Rattle.driver.proofs.run.run.Goals.{else-quick-test, then-quick-test+in-None}

pub turn-requires : goal.turn-requires
turn-requires c =
    let g = c.quick.invariant.0 in
    (omega (arith, g.places), (known_small c.args.request.now.call c.args.d c.args.request.now.operations.now c.args.request.now.size _ (fit_of c.args.request.now) g.known).0)

pub quick-preserved : goal.quick-preserved
quick-preserved c =
    rw c.moved-s.ensures (
      goes_quick c.quick.invariant.0 c.in-Some.k _ _ c.in-Some.ensures c.quick.invariant.1 c.turn.auto.buffer c.turn.auto.log,
      omega arith,
      omega (arith, c.quick.invariant.2),
      c.quick.invariant.3,
    )

pub turn-requires-in-turns : goal.turn-requires-in-turns
turn-requires-in-turns c =
    let buffer : c.quick-test.buffer ≡ c.quick.buffer =
    elim c.quick-test.branch [ else-quick-test w ↦ w.buffer-is | then-quick-test+in-None w ↦ w.buffer-is ∙ w.in-None.ensures.0 ] in
    let log : c.quick-test.log ≡ c.quick.log =
    elim c.quick-test.branch [ else-quick-test w ↦ w.log-is | then-quick-test+in-None w ↦ w.log-is ∙ w.in-None.ensures.1 ] in
    let g = untouched buffer log c.quick.invariant.0 in
    let small = known_small c.args.request.now.call c.args.d c.args.request.now.operations.now c.args.request.now.size _ (fit_of c.args.request.now) g.known in
    (omega (arith, g.places, c.quick.invariant.1), small.0, rw g.view small.1)

pub cursor_after-p-requires-clause-i_bound : goal.cursor_after-p-requires-clause-i_bound
cursor_after-p-requires-clause-i_bound c =
    let buffer : c.quick-test.buffer ≡ c.quick.buffer =
    elim c.quick-test.branch [ else-quick-test w ↦ w.buffer-is | then-quick-test+in-None w ↦ w.buffer-is ∙ w.in-None.ensures.0 ] in
    let log : c.quick-test.log ≡ c.quick.log =
    elim c.quick-test.branch [ else-quick-test w ↦ w.log-is | then-quick-test+in-None w ↦ w.log-is ∙ w.in-None.ensures.1 ] in
    let g = untouched buffer log c.quick.invariant.0 in
    let before = known_small c.args.request.now.call c.args.d c.args.request.now.operations.now c.args.request.now.size _ (fit_of c.args.request.now) g.known in
    let next = known_small c.args.request.now.call c.args.d c.args.request.now.operations.now c.args.request.now.size _ (fit_of c.args.request.now) (kept g c.in-Ok.t _ _ c.in-Ok.ensures) in
    (before.0.piece, next.0.piece)

pub turns-smaller : goal.turns-smaller
turns-smaller c = omega (arith, c.quick.invariant.1, c.quick.invariant.2)

pub turns-preserved : goal.turns-preserved
turns-preserved c =
    let buffer : c.quick-test.buffer ≡ c.quick.buffer =
    elim c.quick-test.branch [ else-quick-test w ↦ w.buffer-is | then-quick-test+in-None w ↦ w.buffer-is ∙ w.in-None.ensures.0 ] in
    let log : c.quick-test.log ≡ c.quick.log =
    elim c.quick-test.branch [ else-quick-test w ↦ w.log-is | then-quick-test+in-None w ↦ w.log-is ∙ w.in-None.ensures.1 ] in
    let g = untouched buffer log c.quick.invariant.0 in (
      goes_on g c.in-Ok.t _ _ c.in-Ok.ensures c.quick.invariant.1 c.turn-in-turns.auto.buffer c.turn-in-turns.auto.log _
          (ap (λ (x : Cursor). x.view) c.cursor_after-p.ensures),
      omega (arith, c.quick.invariant.1),
      c.cursor_after-p.ensures,
    )

pub returns-in-Err : goal.returns-in-Err
returns-in-Err c =
    let buffer : c.quick-test.buffer ≡ c.quick.buffer =
    elim c.quick-test.branch [ else-quick-test w ↦ w.buffer-is | then-quick-test+in-None w ↦ w.buffer-is ∙ w.in-None.ensures.0 ] in
    let log : c.quick-test.log ≡ c.quick.log =
    elim c.quick-test.branch [ else-quick-test w ↦ w.log-is | then-quick-test+in-None w ↦ w.log-is ∙ w.in-None.ensures.1 ] in
    let g = untouched buffer log c.quick.invariant.0 in
    ends g c.in-Err.report _ _ c.in-Err.ensures c.quick.invariant.1
    ∙ whole (request_of c.args.request.now.call c.args.d c.args.request.now.operations.now c.args.request.now.size) c.args.saved c.args.buffer.now c.args.answers.now c.args.log.now

pub returns-then-is_ended : goal.returns-then-is_ended
returns-then-is_ended c =
    full c.turns.invariant.0 (omega arith) _ (rw (sym c.is_ended.ensures, c.if-is_ended.true))
    ∙ whole (request_of c.args.request.now.call c.args.d c.args.request.now.operations.now c.args.request.now.size) c.args.saved c.args.buffer.now c.args.answers.now c.args.log.now

pub returns-else-is_ended : goal.returns-else-is_ended
returns-else-is_ended c =
    full c.turns.invariant.0 (omega arith) _ (rw (sym c.is_ended.ensures, c.if-is_ended.false))
    ∙ whole (request_of c.args.request.now.call c.args.d c.args.request.now.operations.now c.args.request.now.size) c.args.saved c.args.buffer.now c.args.answers.now c.args.log.now
