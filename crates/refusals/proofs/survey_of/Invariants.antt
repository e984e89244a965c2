-- What is found so far, with what is left, is the whole, and few operations add up to a word.
use Rattle.std.specs.Prelude.{◌≡◌, ◌*◌, ◌≤◌, drop}
use Rattle.refusals.specs.Rows.{survey_of}
use Rattle.refusals.proofs.Lists.{onward}
use Rattle.refusals.proofs.survey_of.Given as goal

abbrev pub invariant-loop-o : goal.invariant-loop-o
invariant-loop-o l = (l.total ≤ 65535 * l.o-index) × (onward l.strange l.total (drop l.o-index l.ops) ≡ survey_of l.ops)
