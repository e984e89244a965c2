-- A sound log whose page fits is laid out, and any other is refused.
use Rattle.std.proofs.Common.{sym}
use Rattle.page.proofs.Logs.{unsound, too_long, laid_whole}
use Rattle.page.proofs.lay_out.Goals as goal

pub returns-in_err-ok : goal.returns-in_err-ok
returns-in_err-ok c = rw c.from_residual.ensures (unsound c.args.log.now c.args.out.now c.fault_in.result c.fault_in.ensures (sym c.in_err-ok.ensures.value))

pub returns-in_err-size : goal.returns-in_err-size
returns-in_err-size c =
    rw c.from_residual-in_err-size.ensures
    (too_long c.args.log.now c.args.out.now c.fault_in.result c.fault_in.ensures c.in_ok-ok.field-0 (sym c.in_ok-ok.ensures.value) c.measured.result c.measured.ensures
    c.in_err-size.was)

pub returns : goal.returns
returns c =
    laid_whole c.args.log.now c.args.out.now c.fault_in.result c.fault_in.ensures c.in_ok-ok.field-0 (sym c.in_ok-ok.ensures.value) c.measured.result c.measured.ensures
    c.in_ok-size.size c.in_ok-size.was c.new.result c.put_log.result c.put_log.new.out c.new.ensures c.put_log.ensures
