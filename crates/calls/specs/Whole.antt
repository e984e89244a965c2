-- A run that came to its end: the call ended, or a read found no answer. Assumes nothing.
use Rattle.std.specs.Prelude.{ℕ, ◌≤◌, ◌≡◌, List, length, take, Result, Ok, Err}
use Rattle.calls.specs.Advances.{answers_in}
use Rattle.calls.specs.Calls.{Request}
use Rattle.calls.specs.Next.{next_of}
use Rattle.calls.specs.Refusals.{request_of}
use Rattle.calls.specs.Run.{uncut_of, no_call, Run, stops}
use Rattle.calls.specs.Steps.{access_of, begin_of}
use Rattle.calls.specs.declared.Description.{Description}
use Rattle.calls.specs.declared.Next.{Next}
use Rattle.calls.specs.declared.Next.TheVariants as next
use Rattle.calls.specs.declared.Outcome.{Outcome}
use Rattle.calls.specs.declared.Report.{Report}
use Rattle.calls.specs.declared.Report.TheVariants.{Over, Full, Waiting, Refused}
use Rattle.calls.specs.declared.SavedCall.{SavedCall}
use Rattle.calls.specs.declared.Call.{Call}
use Rattle.calls.specs.declared.Refusal.{Refusal}

-- why a run that has places enough stops before the next access: there is none, or it is a read and has no answer
abbrev pub stop_at : Outcome → Next → Report
stop_at o next.Over = Over o
stop_at o (next.Read r) = Waiting r
stop_at o (next.Write r) = Full
stop_at o (next.Refused why) = Refused why

-- R is the whole uncut run from s over the answers l: as many accesses or more, and the run stays what R is
pub record Whole (q : Request) (s : SavedCall) (b l : List ℕ) (R : Run) : Type 0 where
  pub run : (k : ℕ) → length R.entries ≤ k →
      uncut_of q k s b l ≡ record { saved = R.saved; buffer = R.buffer; log = R.entries }
  pub report : R.report ≡ stop_at R.saved.outcome (next_of (access_of q R.buffer R.saved))
  pub answers : answers_in R.entries ≡ take R.used l

-- from a begin with the description d; after a refused one there is nothing to run
abbrev pub WholeCall : Result Call Refusal → Description → List ℕ → List ℕ → List ℕ → Run → Type 0
WholeCall (Ok c) d ops b l R =
    let q : Request = request_of c d ops (length b) in
    Whole q (begin_of q) b l R
WholeCall (Err r) d ops b l R = R ≡ stops (Refused r) no_call b
