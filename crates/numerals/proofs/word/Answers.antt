-- The first word is the run at the start of what the blanks leave.
use Rattle.numerals.specs.Words.{blank_is}
use Rattle.std.proofs.Common.{false}
use Rattle.numerals.proofs.Words.{taken}
use Rattle.numerals.proofs.word.Goals as goal

pub returns : goal.returns
returns c = cc (taken (blank_is false) c.skip-start.result.now)
