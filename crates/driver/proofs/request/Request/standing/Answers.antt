-- Row 13 as the code goes through it. Assumes nothing.
use Rattle.kinds.proofs.Branch.{told}
use Rattle.driver.proofs.Accepts.{no_belonging, ended_taken, by_standing, piece_small}
use Rattle.driver.proofs.Pieces.{fit_of}
use Rattle.driver.proofs.request.Request.standing.Goals as goal

pub returns-then-not-belongs : goal.returns-then-not-belongs
returns-then-not-belongs c =
    rw (no_belonging _ c.args.d _ _ c.args.s (fit_of c.args.self.now) (told c.belongs.ensures c.if-not-belongs.true))

pub returns-then-is_ended : goal.returns-then-is_ended
returns-then-is_ended c =
    let over = told c.is_ended.ensures c.if-is_ended.true in
    rw (ended_taken _ c.args.d _ _ c.args.s (fit_of c.args.self.now) (told c.belongs.ensures c.if-not-belongs.false) over, over)

pub cursor_at-p-requires : goal.cursor_at-p-requires
cursor_at-p-requires c =
    piece_small _ c.args.d _ _ c.args.s (fit_of c.args.self.now) (told c.belongs.ensures c.if-not-belongs.false)
    (told c.is_ended.ensures c.if-is_ended.false)

pub returns-then-not-stands : goal.returns-then-not-stands
returns-then-not-stands c =
    rw (by_standing _ c.args.d _ _ c.args.s (fit_of c.args.self.now) (told c.belongs.ensures c.if-not-belongs.false)
    (told c.is_ended.ensures c.if-is_ended.false) _ (told c.stands.ensures c.if-not-stands.true))

pub returns : goal.returns
returns c =
    let going = told c.is_ended.ensures c.if-is_ended.false in
    rw (
      by_standing _ c.args.d _ _ c.args.s (fit_of c.args.self.now) (told c.belongs.ensures c.if-not-belongs.false)
          going _ (told c.stands.ensures c.if-not-stands.false),
      going,
      c.cursor_at-p.ensures,
    )
