-- A report that says `waiting` names the register that the next access reads. Assumes nothing.
use Rattle.std.specs.Prelude.{Ok}
use Prim.Native.Nat.{ℕ}
use native.Mathlib.Omega.{arith}
use mathlib.Core.Path.{◌≡◌, ◌∙◌}
use mathlib.Core.List.{List}
use lib.Dec.{T}
use lib.ListN.{length}
use Rattle.registers.specs.declared.Register.{Register}
use Rattle.calls.proofs.Cut.{Part, part, RunCame, over', full', waiting', runs}
use Rattle.calls.proofs.Joined.{Kind, kind, run, refused}
use Rattle.calls.proofs.Logic.{is_true}
use Rattle.calls.specs.Calls.{Request}
use Rattle.calls.specs.Next.{next_of}
use Rattle.calls.specs.Refusals.{request_of, check_of, accepts}
use Rattle.calls.specs.Run.{Run, advance_from, run_of}
use Rattle.calls.specs.Steps.{access_of}
use Rattle.calls.specs.declared.Call.{Call}
use Rattle.calls.specs.declared.Description.{Description}
use Rattle.calls.specs.declared.Next.TheVariants as next
use Rattle.calls.specs.declared.Report.TheVariants.{Waiting}
use Rattle.calls.specs.declared.SavedCall.{SavedCall}
use Rattle.driver.specs.Next.{next_for}

next-is : (c : Call) (d : Description) (ops : List ℕ) (s : SavedCall) (b : List ℕ) → check_of d ops (length b) ≡ Ok c →
    T (accepts (request_of c d ops (length b)) s) → next_for d ops s b ≡ next_of (access_of (request_of c d ops (length b)) b s)
next-is c d ops s b e h = rw (e, is_true (accepts (request_of c d ops (length b)) s) h)

module _ (d : Description) (ops : List ℕ) (n : ℕ) (s : SavedCall) (b l : List ℕ) (r : Register) where
  abbrev Awaits : Run → Type 0
  Awaits R = R.report ≡ Waiting r → next_for d ops R.saved R.buffer ≡ next.Read r

  came : (c : Call) (S : Run) → check_of d ops (length b) ≡ Ok c → Part (request_of c d ops (length b)) n s b l S →
      T (accepts (request_of c d ops (length b)) S.saved) → RunCame (request_of c d ops (length b)) n l S → Awaits S
  came c S e p k (over' x f) h = let z : ◌≡◌ {A = ℕ} 0 1 = cc in absurd (omega arith)
  came c S e p k (full' x w f) h = let z : ◌≡◌ {A = ℕ} 0 1 = cc in absurd (omega arith)
  came c S e p k (waiting' r' x w t v f) h =
      let z : length S.buffer ≡ length b = p.size in
      let g : r' ≡ r = cc in
      next-is c d ops S.saved S.buffer (rw z e) (rw z k) ∙ rw z (rw g at t)

  pub awaited-is : Awaits (run_of d ops n s b l)
  awaited-is = go (kind d ops s b)
    where
      go : Kind d ops s b → Awaits (run_of d ops n s b l)
      go (refused why f) = rw (f n l) (λ h. let z : ◌≡◌ {A = ℕ} 0 1 = cc in absurd (omega arith))
      go (run c e x) =
          let q : Request = request_of c d ops (length b) in
          let p = part q n s b l in
          rw (runs c d ops n s b l e x) (came c (advance_from q n s b l) e p (p.accepted x) p.came)
