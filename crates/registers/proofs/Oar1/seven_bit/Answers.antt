-- `Oar1::seven_bit` meets its contract: the field keeps the low bits, so the shift may drop high ones. Assumes nothing.
use Rattle.std.proofs.Common.{◌∙◌, ◌*◌}
use lib.Pow.{mod-mod-pow}
use Rattle.fields.proofs.Laws.{put_low}
use Rattle.registers.specs.Places.{OAR1_OA1}
use Rattle.registers.proofs.Oar1.seven_bit.Goals as goal

pub returns : goal.returns
returns c = c.with_oa1.ensures ∙ put_low 0 OAR1_OA1 _ _ (mod-mod-pow (c.args.own * 2) 22 10)
