-- `bands::calc_timing_params` meets its contract: the row is one of five sound ones. Assumes nothing.
use Rattle.std.proofs.Common.{Some, ◌∙◌, ap, subst, sym, arith}
use Rattle.timing.specs.declared.Band.{Band}
use Rattle.bands.specs.Bands.{by_found}
use Rattle.bands.specs.Bounds.{Sound}
use Rattle.bands.proofs.Five.{by_five, five_sound}
use Rattle.bands.proofs.calc_timing_params.Goals as goal

pub by_found-requires : goal.by_found-requires
by_found-requires c = subst Sound (sym c.band_of.ensures) (five_sound _ (omega arith))

pub returns : goal.returns
returns c = c.by_found.ensures ∙ ap (λ (b : Band). by_found c.args.clock c.args.frequency (Some b)) c.band_of.ensures ∙ by_five c.args.clock c.args.frequency
