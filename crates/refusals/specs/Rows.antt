-- Serves the proof of row 10: what the code's one pass over the list finds.
-- Assumes nothing.
use Rattle.std.specs.Prelude.{ℕ, List}
use Rattle.calls.specs.Refusals.{total, any_of, strange_bits}
use Rattle.refusals.specs.declared.Survey.{Survey}

abbrev pub survey_of : List ℕ → Survey
survey_of ops = record { strange = any_of strange_bits ops; total = total ops }
