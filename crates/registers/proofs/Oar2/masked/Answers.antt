-- `Oar2::masked` meets its contract: the field keeps three bits, and so does the code. Assumes nothing.
use Rattle.std.proofs.Common.{◌∙◌, arith}
use Rattle.fields.proofs.Laws.{put_low}
use Rattle.registers.specs.Places.{OAR2_OA2MSK}
use Rattle.registers.proofs.Oar2.masked.Goals as goal

pub returns : goal.returns
returns c = rw (← c.secondary.ensures) (c.with_oa2msk.ensures ∙ put_low _ OAR2_OA2MSK _ _ (omega arith))
