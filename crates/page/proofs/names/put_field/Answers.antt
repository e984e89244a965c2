-- A field that is left out, a flag or a number.
use Rattle.std.proofs.Common.{rules}
use Rattle.page.proofs.Putting.{field-cases}
use Rattle.page.proofs.names.put_field.Goals as goal
use Rattle.page.proofs.names.put_field.Goals.{then-at-ge32-via-then-at-ge32, then-at-ge32-via-else-at-ge32+then-width-ge32, then-at-ge32-via-else-at-ge32+else-width-ge32+then-label-gt20}

pub returns-then-at-ge32 : goal.returns-then-at-ge32
returns-then-at-ge32 c =
    elim c.then-at-ge32.branch [
      | then-at-ge32-via-then-at-ge32 w ↦ search (rules, field-cases)
      | then-at-ge32-via-else-at-ge32+then-width-ge32 w ↦ search (rules, field-cases)
      | then-at-ge32-via-else-at-ge32+else-width-ge32+then-label-gt20 w ↦ search (rules, field-cases)
    ]

pub returns-then-width-eq1 : goal.returns-then-width-eq1
returns-then-width-eq1 c = search (rules, field-cases)

pub returns-else-width-eq1 : goal.returns-else-width-eq1
returns-else-width-eq1 c = search (rules, field-cases)
