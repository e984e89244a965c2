-- What is promised of pages holds. Assumes nothing.
use Rattle.page.specs.Promises.{PagePromises}
use Rattle.page.proofs.Back.{value_read, value_written}
use Rattle.page.proofs.Lines.{columns, few_lines}
use Rattle.page.proofs.Same.{same_log, same_bytes}
use Rattle.page.proofs.Sound.{sound, only_so, accepted, only_then, unchanged}

pub page_promises : PagePromises
page_promises = record {
  columns = columns;
  few_lines = few_lines;
  sound = sound;
  only_so = only_so;
  accepted = accepted;
  only_then = only_then;
  unchanged = unchanged;
  same_log = same_log;
  same_bytes = same_bytes;
  value_read = value_read;
  value_written = value_written;
}
