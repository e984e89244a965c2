-- The fields that are left, put where the text stands, are the whole.
use Rattle.std.proofs.Common.{◌≡◌, ◌-◌}
use Rattle.page.specs.Put.{as_put, fields_in, fields_put}
use Rattle.page.proofs.names.put_fields.Given as goal

abbrev pub invariant-loop : goal.invariant-loop
invariant-loop l =
    fields_put l.value (fields_in (l.n - l.counter) l.rest) (as_put l.line l.out)
    ≡ fields_put l.value (fields_in l.n l.layout) (as_put l.initial.line l.initial.out)
