-- What is left of the run, after what was done, is the whole.
use Rattle.std.proofs.Common.{◌≡◌, ◌+◌, ◌-◌, ◌*◌, ◌≤◌, length, true}
use Rattle.calls.specs.Joined.{is_full, rest_from}
use Rattle.drive.specs.Drive.{as_driven, in_lines}
use Rattle.drive.proofs.run.Given as goal

abbrev pub invariant-loop : goal.invariant-loop
invariant-loop l = record {
  used : l.t.advanced.used ≤ length l.job.answers.now;
  written : l.t.advanced.written + 512 * (256 - l.counter) ≤ 131072;
  full : is_full l.t.advanced.report ≡ true;
  left :
      rest_from (in_lines l.form) l.job.description l.job.operations.now l.job.answers.now (512 * (256 - l.counter)) (as_driven l.t l.buffer l.out)
      ≡ rest_from (in_lines l.form) l.job.description l.job.operations.now l.job.answers.now 131072 (as_driven l.initial.t l.initial.buffer l.initial.out);
}
