-- What is left of the run, after what was done, is the whole. Each piece but the last fills places of the log. Assumes nothing.
use Rattle.std.proofs.Common.{◌≡◌, ◌+◌, ◌-◌, ◌/◌, ◌≤◌, length, cond}
use Rattle.calls.specs.Joined.{is_full, as_reached, rest_from}
use Rattle.words.specs.Words.{words_in}
use Rattle.advance_bytes.specs.Pieces.{in_bytes}
use Rattle.advance_bytes.proofs.rest.Given as goal

abbrev pub invariant-loop-d : goal.invariant-loop-d
invariant-loop-d l =
    record {
      used : l.t.used ≤ length l.answers / 4;
      written : l.t.written ≤ length l.log / 8;
      room : length l.entries / 2 ≤ length l.window;
      places : 2 ≤ length l.entries;
      whole :
          rest_from in_bytes l.d l.ops (words_in l.answers) (length l.log / 8 - l.t.written) (as_reached l.t l.buffer l.log)
          ≡ rest_from in_bytes l.d l.ops (words_in l.answers) (length l.initial.log / 8 - l.initial.t.written) (as_reached l.initial.t l.initial.buffer l.initial.log);
    }

abbrev pub decreases-loop-d : goal.decreases-loop-d
decreases-loop-d l = cond (is_full l.t.report) (1 + (length l.log / 8 - l.t.written)) 0
