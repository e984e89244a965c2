-- The bits above a number, and the number.
use Rattle.std.proofs.Common.{rules}
use Rattle.page.proofs.Putting.{digits_fit, number_put_holds}
use Rattle.page.proofs.line.Line.put_number.Goals as goal

pub put_token-line-requires : goal.put_token-line-requires
put_token-line-requires c = search (rules, digits_fit)

pub returns : goal.returns
returns c =
    number_put_holds c.args.value c.args.at _ _ _ c.args.label.now _ _ c.args.width _ c.put_bits-line.ensures c.significant.ensures c.ten_digits-digits.ensures
    c.get.ensures c.put_token-line.ensures
