use borrow.Author.Rules.{rules}
use Rattle.refusals.proofs.Lists.{survey-turns}
use Rattle.refusals.proofs.survey_of.Goals as goal

pub loop-o-init : goal.loop-o-init
loop-o-init c = search (rules, survey-turns)

pub overflow_add-total : goal.overflow_add-total
overflow_add-total c = search (rules, survey-turns)

pub loop-o-preserved : goal.loop-o-preserved
loop-o-preserved c = search (rules, survey-turns)

pub returns : goal.returns
returns c = search (rules, survey-turns)
