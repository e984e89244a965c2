-- Demand 3 whole, for the advances As after a begin with the description d, the operations ops and the buffer b: they are one
-- uncut run, and so what is true of its bytes, counts and events is true of theirs. Assumes nothing.
use Rattle.std.specs.Prelude.{ℕ, min, ◌≡◌, List, length, Result, Ok, Err}
use Rattle.calls.specs.Advances.{Advance, OneRun, NoRun, made, buffer_after, saved_after}
use Rattle.calls.specs.Bytes.{BytesOut, BytesIn, Count, Carried, EndedAs}
use Rattle.calls.specs.Calls.{Request}
use Rattle.calls.specs.Events.{Events}
use Rattle.calls.specs.Refusals.{request_of}
use Rattle.calls.specs.Run.{Entry, Uncut}
use Rattle.calls.specs.Steps.{begin_of}
use Rattle.calls.specs.declared.Description.{Description}
use Rattle.calls.specs.declared.Outcome.TheVariants.{Done}
use Rattle.calls.specs.declared.Call.{Call}
use Rattle.calls.specs.declared.Refusal.{Refusal}

-- where the advances leave the call, the buffer and the joined log
abbrev pub left : Request → List ℕ → List Advance → List Entry → Uncut
left q b As log = record { saved = saved_after As (begin_of q); buffer = buffer_after As b; log = log }

pub record Kept (q : Request) (b : List ℕ) (As : List Advance) : Type 0 where
  pub one_run : OneRun q b As
  pub bytes_out : BytesOut q b (left q b As one_run.log)
  pub bytes_in : BytesIn q b (left q b As one_run.log)
  pub count : (n : ℕ) → EndedAs (Done n) (left q b As one_run.log) → Count q b (left q b As one_run.log) n
  pub carried : Carried q b (left q b As one_run.log)
  pub events : Events q (left q b As one_run.log)
  pub accesses : (saved_after As (begin_of q)).accesses ≡ min (made As) 4294967295

abbrev pub Demand3 : Result Call Refusal → Description → List ℕ → List ℕ → List Advance → Type 0
Demand3 (Ok c) d ops b As = Kept (request_of c d ops (length b)) b As
Demand3 (Err r) d ops b As = NoRun b As
