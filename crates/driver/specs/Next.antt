-- The next access as firmware asks for it: the register, read or written, before its word is known. Assumes nothing.
use Rattle.std.specs.Prelude.{ℕ, cond, List, length, Result, Ok, Err}
use Rattle.calls.specs.Next.{next_of}
use Rattle.calls.specs.Calls.{Request}
use Rattle.calls.specs.Refusals.{request_of, check_of, accepts}
use Rattle.calls.specs.Steps.{access_of}
use Rattle.calls.specs.declared.Description.{Description}
use Rattle.calls.specs.declared.Refusal.TheVariants.{SavedCall as BadSavedCall}
use Rattle.calls.specs.declared.SavedCall.{SavedCall}
use Rattle.calls.specs.declared.Next.{Next}
use Rattle.calls.specs.declared.Next.TheVariants as next
use Rattle.calls.specs.declared.Call.{Call}
use Rattle.calls.specs.declared.Refusal.{Refusal}

-- it is refused as an advance is
abbrev pub next_by : Result Call Refusal → Description → List ℕ → SavedCall → List ℕ → Next
next_by (Err r) d ops s b = next.Refused r
next_by (Ok c) d ops s b =
    let q : Request = request_of c d ops (length b) in
    cond (accepts q s) (next_of (access_of q b s)) (next.Refused BadSavedCall)

abbrev pub next_for : Description → List ℕ → SavedCall → List ℕ → Next
next_for d ops s b = next_by (check_of d ops (length b)) d ops s b
