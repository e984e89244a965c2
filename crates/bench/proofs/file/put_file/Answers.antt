-- A file of the wrong size is refused, and the words of another all fit in the room.
use Rattle.std.proofs.Common.{ℕ, List, replicate, sym, ap, ◌∙◌, rules}
use Rattle.std.proofs.lemmas.List.{length-replicate}
use Rattle.words.proofs.Turns.{decoded_room, decoded_count}
use Rattle.window.specs.Window.{laid, emit_of}
use Rattle.bench.specs.Text.{words_text, file_text}
use Rattle.bench.proofs.Texts.{either, other}
use Rattle.bench.proofs.Whole.{all_words}
use Rattle.bench.proofs.file.put_file.Goals as goal

pub returns-then-is_size_wrong : goal.returns-then-is_size_wrong
unfolding file_text
returns-then-is_size_wrong c = either _ _ _ _ _ _ c.is_size_wrong.ensures c.if-is_size_wrong.true c.put_refusal.ensures

pub slice_bounds-words-end : goal.slice_bounds-words-end
slice_bounds-words-end c = search (rules, decoded_room)

pub slice_bounds-put_words-end : goal.slice_bounds-put_words-end
slice_bounds-put_words-end c = search (rules, decoded_count)

pub returns : goal.returns
unfolding file_text
returns c =
    other _ _ _ _ _ _ c.is_size_wrong.ensures c.if-is_size_wrong.false
    (
    c.put_words.ensures
    ∙ ap (λ (ws : List ℕ). emit_of (words_text c.args.form ws) (laid c.args.p c.args.out.now))
    (all_words c.args.file.now (replicate 16384 0) c.decode-n.result c.decode-n.new.words (sym c.is_size_wrong.ensures ∙ c.if-is_size_wrong.false) (length-replicate {A = ℕ} 16384 0) c.decode-n.ensures)
    )
