-- What is accepted begins with a piece if it has one. Assumes nothing.
use Rattle.calls.specs.Steps.{begin_of}
use Rattle.calls.specs.Run.{begun_of}
use Rattle.driver.proofs.begin.Goals as goal

pub returns-in-Ok : goal.returns-in-Ok
unfolding begun_of begin_of
returns-in-Ok c =
    let e = c.in-Ok.ensures in
    rw (e.0, c.begin_at.ensures, c.has_pieces.ensures, e.1, e.2)
