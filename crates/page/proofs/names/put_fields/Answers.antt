-- A field that is told by the words of the text is put after the ones above it.
use Rattle.std.proofs.Common.{rules}
use Rattle.page.proofs.Putting.{fields_shown, next_field}
use Rattle.page.proofs.names.put_fields.Goals as goal

pub loop-preserved : goal.loop-preserved
loop-preserved c = search (rules, next_field)

pub returns : goal.returns
returns c = search (rules, fields_shown)
