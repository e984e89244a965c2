-- Demand 3: what holds of the uncut run holds of every list of advances. `demand_3` is the theorem. Assumes nothing.
use Rattle.std.specs.Prelude.{Result, Ok, Err}
use Prim.Native.Nat.{ℕ, min}
use mathlib.Core.Path.{◌≡◌, refl, ap, ◌∙◌, subst}
use mathlib.Core.List.{List, [], ◌++◌}
use lib.ListN.{length}
use Rattle.calls.specs.Advances.{Advance, Follows, given, made, OneRun, CutAnywhere}
use Rattle.calls.specs.Bytes.{BytesOut, BytesIn, Count, Carried, EndedAs}
use Rattle.calls.specs.Calls.{Request}
use Rattle.calls.specs.Events.{Events}
use Rattle.calls.specs.Demand.{left, Kept, Demand3}
use Rattle.calls.specs.Refusals.{request_of, check_of}
use Rattle.calls.specs.Run.{Uncut, uncut_of, begun_of}
use Rattle.calls.specs.Steps.{begin_of}
use Rattle.calls.specs.declared.Call.{Call}
use Rattle.calls.specs.declared.Description.{Description}
use Rattle.calls.specs.declared.Outcome.TheVariants.{Done}
use Rattle.calls.proofs.Counter.{counts_accesses}
use Rattle.calls.proofs.Counts.{done_count, carries}
use Rattle.calls.proofs.Cut.{cut_anywhere}
use Rattle.calls.proofs.Events.{events_named}
use Rattle.calls.proofs.Fit.{accepted_fit}
use Rattle.calls.proofs.Moved.{bytes_out, bytes_in}
use Rattle.calls.specs.declared.Refusal.{Refusal}

-- what every uncut run is, the advances' run is
of_run : (q : Request) (b : List ℕ) (As : List Advance) (r : OneRun q b As) (P : Uncut → Type 0)
    → ((k : ℕ) (l : List ℕ) → P (uncut_of q k (begin_of q) b l)) → P (left q b As r.log)
of_run q b As r P h = subst P (r.run []) (h (made As) (given As ++ []))

kept : (c : Call) (d : Description) (ops b : List ℕ) (As : List Advance) → check_of d ops (length b) ≡ Ok c
    → OneRun (request_of c d ops (length b)) b As → Kept (request_of c d ops (length b)) b As
kept c d ops b As e r =
    let q : Request = request_of c d ops (length b) in
    record {
      one_run = r;
      bytes_out = of_run q b As r (BytesOut q b) (λ k l. bytes_out q k b l refl);
      bytes_in = of_run q b As r (BytesIn q b) (λ k l. bytes_in q k b l refl (accepted_fit c d ops (length b) e).sum);
      count = of_run q b As r (λ U. (n : ℕ) → EndedAs (Done n) U → Count q b U n) (λ k l n h. done_count q k b l n refl h);
      carried = of_run q b As r (Carried q b) (λ k l. carries q k b l refl);
      events = of_run q b As r (Events q) (λ k l. events_named q k b l);
      accesses =
          of_run q b As r (λ U. U.saved.accesses ≡ min (length U.log) 4294967295) (λ k l. counts_accesses q k b l)
          ∙ ap (λ (n : ℕ). min n 4294967295) r.count;
    }

pub demand_3 : (d : Description) (ops b : List ℕ) (As : List Advance)
    → Follows d ops As (begun_of d ops (length b)).saved b → Demand3 (check_of d ops (length b)) d ops b As
demand_3 d ops b As f = go (check_of d ops (length b)) refl (cut_anywhere d ops b As f)
  where
    go : (v : Result Call Refusal) → check_of d ops (length b) ≡ v → CutAnywhere v d ops b As → Demand3 v d ops b As
    go (Ok c) e r = kept c d ops b As e r
    go (Err x) e r = r
