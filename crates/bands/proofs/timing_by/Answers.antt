-- `bands::timing_by` meets its contract: a table that is accepted is gone by. Assumes nothing.
use Rattle.std.proofs.Common.{◌∙◌, sym}
use Rattle.bands.proofs.Tables.{found_sound, by_its_row}
use Rattle.bands.proofs.timing_by.Goals as goal

pub by_found-requires : goal.by_found-requires
by_found-requires c = found_sound c.args.table.now c.args.clock c.args.frequency (sym c.in_ok-load.was ∙ c.load.ensures) _ c.find.ensures

pub returns : goal.returns
returns c = by_its_row c.args.table.now c.args.clock c.args.frequency (sym c.in_ok-load.was ∙ c.load.ensures) _ c.find.ensures _ c.by_found.ensures
