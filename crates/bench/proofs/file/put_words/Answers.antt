-- A file that is none is refused, and the calls of another are put in turn.
use Rattle.bench.specs.Text.{words_text}
use Rattle.bench.proofs.Texts.{either, other}
use Rattle.bench.proofs.file.put_words.Goals as goal

pub returns-then-is_wrong : goal.returns-then-is_wrong
unfolding words_text
returns-then-is_wrong c = either _ _ _ _ _ _ c.is_wrong.ensures c.if-is_wrong.true c.put_refusal.ensures

pub returns : goal.returns
unfolding words_text
returns c = rw (← c.word.ensures, ← c.after.ensures) (other _ _ _ _ _ _ c.is_wrong.ensures c.if-is_wrong.false c.put_table.ensures)
