-- The entries that are left, put where the text stands, are the page.
use Rattle.std.proofs.Common.{◌≡◌, ◌<◌, ◌*◌, drop}
use Rattle.window.specs.Window.{laid, emit_of}
use Rattle.words.specs.Words.{words_in}
use Rattle.page.specs.Page.{entries_text, page_of}
use Rattle.page.proofs.put_log.Given as goal

abbrev pub invariant-loop-entry : goal.invariant-loop-entry
invariant-loop-entry l = record {
  six_digits : l.n < 1000000;
  rest : emit_of (entries_text l.n (words_in (drop (8 * l.entry-index) l.log))) (laid l.q l.out) ≡ emit_of (page_of (words_in l.log)) (laid l.initial.q l.initial.out);
}
