-- An advance that goes on where another one found its log full, and what several of them make together. Assumes nothing.
use Rattle.std.specs.Prelude.{ℕ, zero, suc, ◌+◌, Bool, true, false, cond, List, ◌++◌, length, drop}
use Rattle.calls.specs.Run.{Run, words_of, run_of}
use Rattle.calls.specs.declared.Advanced.{Advanced}
use Rattle.calls.specs.declared.Description.{Description}
use Rattle.calls.specs.declared.Report.{Report}
use Rattle.calls.specs.declared.Report.TheVariants.{Over, Full, Waiting, Refused}
use Rattle.calls.specs.declared.SavedCall.{SavedCall}

abbrev pub is_full : Report → Bool
is_full (Over o) = false
is_full Full = true
is_full (Waiting r) = false
is_full (Refused r) = false

-- R and then S: S stands where the call came to
abbrev pub join_run : Run → Run → Run
join_run R S =
    record {
      report = S.report;
      saved = S.saved;
      buffer = S.buffer;
      used = R.used + S.used;
      entries = R.entries ++ S.entries;
    }

-- R over the answers l and, where its log was full, what `go` makes of the saved call, the buffer and the answers that it left
abbrev pub then_run : Run → List ℕ → (SavedCall → List ℕ → List ℕ → Run) → Run
then_run R l go = cond (is_full R.report) (join_run R (go R.saved R.buffer (drop R.used l))) R

-- ---- How far a call has come by one advance or several: what they gave in all, the buffer as the last one left it, and where their
-- entries went. That is for the caller to choose: bytes of a log, or lines of a text. `put w ws o` puts entries, of which ws are the
-- words, into o after w others.
pub record Reached (Out : Type 0) : Type 0 where
  pub advanced : Advanced
  pub buffer : List ℕ
  pub out : Out

abbrev pub as_reached : {Out : Type 0} → Advanced → List ℕ → Out → Reached Out
as_reached a b o = record { advanced = a; buffer = b; out = o }

-- before the first advance, and after a run from there
abbrev pub not_yet : SavedCall → Advanced
not_yet s = record { used = 0; written = 0; saved = s; report = Full }

abbrev pub reached_by : {Out : Type 0} → (ℕ → List ℕ → Out → Out) → Run → Out → Reached Out
reached_by put R o =
    as_reached (record { used = R.used; written = length R.entries; saved = R.saved; report = R.report }) R.buffer (put 0 (words_of R.entries) o)

-- the run R after F
abbrev pub add_run : {Out : Type 0} → (ℕ → List ℕ → Out → Out) → Reached Out → Run → Reached Out
add_run put F R =
    let a : Advanced = F.advanced in
    as_reached (record { used = a.used + R.used; written = a.written + length R.entries; saved = R.saved; report = R.report })
    R.buffer (put a.written (words_of R.entries) F.out)

-- the advance that goes on from F over n places, of the answers l
abbrev pub go_on : {Out : Type 0} → (ℕ → List ℕ → Out → Out) → Description → List ℕ → List ℕ → ℕ → Reached Out → Reached Out
go_on put d ops l n F =
    let a : Advanced = F.advanced in
    add_run put F (run_of d ops n a.saved F.buffer (drop a.used l))

-- and what is left to do from F on, over n places: nothing unless the log was full
abbrev pub rest_from : {Out : Type 0} → (ℕ → List ℕ → Out → Out) → Description → List ℕ → List ℕ → ℕ → Reached Out → Reached Out
rest_from put d ops l zero F = F
rest_from put d ops l (suc n) F = cond (is_full F.advanced.report) (go_on put d ops l (suc n) F) F
