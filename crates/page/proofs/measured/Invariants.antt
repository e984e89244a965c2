-- What the entries that are left take, and what is gone of the room, is the size.
use Rattle.std.proofs.Common.{◌≡◌, ◌+◌, ◌*◌, ◌<◌, ◌≤◌, length, drop}
use Rattle.words.specs.Words.{words_in}
use Rattle.page.specs.Page.{entries_text, page_of}
use Rattle.page.proofs.measured.Given as goal

abbrev pub invariant-loop-entry : goal.invariant-loop-entry
invariant-loop-entry l = record {
  six_digits : l.n < 1000000;
  room : l.left ≤ l.room;
  rest : length (entries_text l.n (words_in (drop (8 * l.entry-index) l.log))) + l.room ≡ length (page_of (words_in l.log)) + l.left;
}
