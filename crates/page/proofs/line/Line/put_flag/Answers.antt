-- The bits above a flag, and the flag.
use Rattle.page.proofs.Putting.{flag_put_holds}
use Rattle.page.proofs.line.Line.put_flag.Goals as goal

pub returns : goal.returns
returns c = flag_put_holds c.args.value c.args.at _ _ _ c.args.name.now c.put_bits-line.ensures c.put_if-line.ensures
