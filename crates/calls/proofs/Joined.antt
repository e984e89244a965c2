-- An advance made in two pieces is one advance, as its caller sees it: `in_pieces` is the theorem. Assumes nothing.
use Rattle.std.specs.Prelude.{Result, Ok, Err}
use Prim.Native.Nat.{ℕ, zero, suc, ◌+◌, ◌≤◌}
use native.Mathlib.Nat.{zero-add, suc-add, add_assoc}
use native.Mathlib.Omega.{arith}
use mathlib.Core.Path.{◌≡◌, refl, ap, ◌∙◌}
use mathlib.Core.Bool.{not}
use mathlib.Core.List.{List, [], ◌∷◌, append_assoc}
use lib.Dec.{T}
use lib.ListN.{length, drop, set, length-set}
use lib.Seq.{drop-drop}
use Rattle.registers.specs.declared.Register.TheVariants.{Rxdr}
use Rattle.calls.specs.Calls.{Request}
use Rattle.calls.specs.Joined.{is_full, join_run, then_run}
use Rattle.calls.specs.Refusals.{request_of, check_of, accepts}
use Rattle.calls.specs.Run.{Entry, read_entry, write_entry, byte_of, Run, stops, wrote, took, turn_of, advance_from, run_of}
use Rattle.calls.specs.Steps.{access_of, after_of, same_step}
use Rattle.calls.specs.declared.Access.{Access}
use Rattle.calls.specs.declared.Access.TheVariants.{Read, Take, Write, Nothing}
use Rattle.calls.specs.declared.Call.{Call}
use Rattle.calls.specs.declared.Description.{Description}
use Rattle.calls.specs.declared.Refusal.{Refusal}
use Rattle.calls.specs.declared.Refusal.TheVariants.{SavedCall as BadSavedCall}
use Rattle.calls.specs.declared.Report.{Report}
use Rattle.calls.specs.declared.Report.TheVariants.{Over, Full, Waiting, Refused}
use Rattle.calls.specs.declared.SavedCall.{SavedCall}
use Rattle.calls.specs.declared.Step.TheVariants.{Ended}
use Rattle.calls.proofs.Along.{no_access}
use Rattle.calls.proofs.Cut.{part, runs}
use Rattle.calls.proofs.Logic.{both, is_true, is_false}

abbrev Go : Type 0
Go = SavedCall → List ℕ → List ℕ → Run

-- an access made first is the first piece's
wrote_then : (e : Entry) (R : Run) (l : List ℕ) (go : Go) → wrote e (then_run R l go) ≡ then_run (wrote e R) l go
wrote_then e R l go =
    both (is_full R.report) (λ h. rw (is_true (is_full R.report) h)) (λ h. rw (is_false (is_full R.report) h))

took_then : (e : Entry) (R : Run) (a : ℕ) (l : List ℕ) (go : Go) → took e (then_run R l go) ≡ then_run (took e R) (a ∷ l) go
took_then e R a l go =
    both (is_full R.report) (λ h. rw (is_true (is_full R.report) h, suc-add)) (λ h. rw (is_false (is_full R.report) h))

-- an ended call gives its outcome, over any log
ended_over : (q : Request) (n : ℕ) (s : SavedCall) (b l : List ℕ) → T (same_step s.step Ended)
    → advance_from q n s b l ≡ stops (Over s.outcome) s b
unfolding advance_from
ended_over q zero s b l h = rw (is_true (same_step s.step Ended) h)
ended_over q (suc n) s b l h = rw (no_access q b s h)

module _ (q : Request) (n : ℕ) where
  abbrev then_n : Run → List ℕ → Run
  then_n R l = then_run R l (advance_from q n)

  pieces_turn : (m : ℕ) (s : SavedCall) (b l : List ℕ) (x : Access)
      → ((s : SavedCall) (b l : List ℕ) → advance_from q (m + n) s b l ≡ then_n (advance_from q m s b l) l)
      → turn_of (advance_from q (m + n)) q s b l x ≡ then_n (turn_of (advance_from q m) q s b l x) l
  pieces_turn m s b l Nothing ih = refl
  pieces_turn m s b l (Write r v) ih =
      rw (ih (after_of q s 0) b l) (wrote_then (write_entry r v) (advance_from q m (after_of q s 0) b l) l (advance_from q n))
  pieces_turn m s b [] (Read r) ih = refl
  pieces_turn m s b (a ∷ l) (Read r) ih =
      rw (ih (after_of q s a) b l) (took_then (read_entry r a) (advance_from q m (after_of q s a) b l) a l (advance_from q n))
  pieces_turn m s b [] (Take i) ih = refl
  pieces_turn m s b (a ∷ l) (Take i) ih =
      let b' : List ℕ = set b i (byte_of a) in
      rw (ih (after_of q s a) b' l) (took_then (read_entry Rxdr a) (advance_from q m (after_of q s a) b' l) a l (advance_from q n))

  pieces : (m : ℕ) (s : SavedCall) (b l : List ℕ) → advance_from q (m + n) s b l ≡ then_n (advance_from q m s b l) l
  unfolding advance_from
  pieces zero s b l =
      both (same_step s.step Ended)
      (λ h. rw (is_true (same_step s.step Ended) h, zero-add) (ended_over q n s b l h))
      (λ h. rw (is_false (same_step s.step Ended) h, zero-add, zero-add))
  pieces (suc m) s b l = rw suc-add (pieces_turn m s b l (access_of q b s) (pieces m))

-- what an accepted advance leaves is accepted again, with the same description
again : (c : Call) (d : Description) (ops : List ℕ) (m n : ℕ) (s : SavedCall) (b l l' : List ℕ)
    → check_of d ops (length b) ≡ Ok c → T (accepts (request_of c d ops (length b)) s)
    → let R : Run = advance_from (request_of c d ops (length b)) m s b l in
    run_of d ops n R.saved R.buffer l' ≡ advance_from (request_of c d ops (length b)) n R.saved R.buffer l'
again c d ops m n s b l l' e h =
    let q : Request = request_of c d ops (length b) in
    let R : Run = advance_from q m s b l in
    let p = part q m s b l in
    runs c d ops n R.saved R.buffer l' (rw p.size e) (rw p.size (p.accepted h)) ∙ rw p.size

-- a refused one is nothing but that
rejected : (r : Refusal) (d : Description) (ops : List ℕ) (n : ℕ) (s : SavedCall) (b l : List ℕ)
    → check_of d ops (length b) ≡ Err r → run_of d ops n s b l ≡ stops (Refused r) s b
unfolding run_of
rejected r d ops n s b l e = rw e

unfit : (c : Call) (d : Description) (ops : List ℕ) (n : ℕ) (s : SavedCall) (b l : List ℕ)
    → check_of d ops (length b) ≡ Ok c → T (not (accepts (request_of c d ops (length b)) s))
    → run_of d ops n s b l ≡ stops (Refused BadSavedCall) s b
unfolding run_of
unfit c d ops n s b l e h = rw (e, is_false (accepts (request_of c d ops (length b)) s) h)

-- an advance is run, or is refused whatever its log
pub data Kind (d : Description) (ops : List ℕ) (s : SavedCall) (b : List ℕ) : Type 0 where
  run : (c : Call) → check_of d ops (length b) ≡ Ok c → T (accepts (request_of c d ops (length b)) s) → Kind d ops s b
  refused : (r : Refusal) → ((n : ℕ) (l : List ℕ) → run_of d ops n s b l ≡ stops (Refused r) s b) → Kind d ops s b

pub kind : (d : Description) (ops : List ℕ) (s : SavedCall) (b : List ℕ) → Kind d ops s b
kind d ops s b = go (check_of d ops (length b)) refl
  where
    go : (v : Result Call Refusal) → check_of d ops (length b) ≡ v → Kind d ops s b
    go (Err r) e = refused r (λ n l. rejected r d ops n s b l e)
    go (Ok c) e =
        both (accepts (request_of c d ops (length b)) s)
        (λ h. run c e h)
        (λ h. refused BadSavedCall (λ n l. unfit c d ops n s b l e h))

pub in_pieces : (d : Description) (ops : List ℕ) (m n : ℕ) (s : SavedCall) (b l : List ℕ)
    → run_of d ops (m + n) s b l ≡ then_run (run_of d ops m s b l) l (run_of d ops n)
in_pieces d ops m n s b l = go (kind d ops s b)
  where
    go : Kind d ops s b → run_of d ops (m + n) s b l ≡ then_run (run_of d ops m s b l) l (run_of d ops n)
    go (refused r f) = rw (f (m + n) l, f m l)
    go (run c e h) =
        let q : Request = request_of c d ops (length b) in
        let R : Run = advance_from q m s b l in
        rw (runs c d ops (m + n) s b l e h, runs c d ops m s b l e h, again c d ops m n s b l (drop R.used l) e h)
        (pieces q n m s b l)

-- what goes on from a second piece goes on from both
pub join_then : (R S : Run) (l : List ℕ) (go : Go) → join_run R (then_run S (drop R.used l) go) ≡ then_run (join_run R S) l go
join_then R S l go =
    both (is_full S.report)
    (λ h. rw (is_true (is_full S.report) h, drop-drop) (simp (add_assoc, append_assoc)))
    (λ h. rw (is_false (is_full S.report) h))

-- ---- what an advance stays within: its places, its answers, its buffer; if it is full it has used every place

pub record Within (n : ℕ) (b l : List ℕ) (R : Run) : Type 0 where
  pub entries : length R.entries ≤ n
  pub used : R.used ≤ length l
  pub buffer : length R.buffer ≡ length b
  pub full : R.report ≡ Full → length R.entries ≡ n

within_stop : (n : ℕ) (r : Report) (s : SavedCall) (b l : List ℕ) → (r ≡ Full → 0 ≡ n) → Within n b l (stops r s b)
within_stop n r s b l f = record { entries = omega arith; used = omega arith; buffer = refl; full = f }

module _ (q : Request) (n : ℕ) (ih : (s : SavedCall) (b l : List ℕ) → Within n b l (advance_from q n s b l))
    (s : SavedCall) (b : List ℕ) where
  within_read : (e : Entry) (a : ℕ) (l b' : List ℕ) → length b' ≡ length b
      → Within (suc n) b (a ∷ l) (took e (advance_from q n (after_of q s a) b' l))
  within_read e a l b' z =
      let i = ih (after_of q s a) b' l in
      record { entries = omega arith; used = omega arith; buffer = i.buffer ∙ z; full = λ f. ap suc (i.full f) }

  within_turn : (l : List ℕ) (x : Access) → Within (suc n) b l (turn_of (advance_from q n) q s b l x)
  within_turn l Nothing = within_stop (suc n) (Over s.outcome) s b l (λ f. cc)
  within_turn l (Write r v) =
      let i = ih (after_of q s 0) b l in
      record { entries = omega arith; used = i.used; buffer = i.buffer; full = λ f. ap suc (i.full f) }
  within_turn [] (Read r) = within_stop (suc n) (Waiting r) s b [] (λ f. cc)
  within_turn (a ∷ l) (Read r) = within_read (read_entry r a) a l b refl
  within_turn [] (Take i) = within_stop (suc n) (Waiting Rxdr) s b [] (λ f. cc)
  within_turn (a ∷ l) (Take i) = within_read (read_entry Rxdr a) a l (set b i (byte_of a)) (length-set b i (byte_of a))

within_from : (q : Request) (n : ℕ) (s : SavedCall) (b l : List ℕ) → Within n b l (advance_from q n s b l)
unfolding advance_from
within_from q zero s b l = within_stop zero _ s b l (λ _. refl)
within_from q (suc n) s b l = within_turn q n (within_from q n) s b l (access_of q b s)

pub within : (d : Description) (ops : List ℕ) (n : ℕ) (s : SavedCall) (b l : List ℕ) → Within n b l (run_of d ops n s b l)
within d ops n s b l = go (kind d ops s b)
  where
    go : Kind d ops s b → Within n b l (run_of d ops n s b l)
    go (refused r f) = rw (f n l) (within_stop n (Refused r) s b l (λ e. cc))
    go (run c e h) = rw (runs c d ops n s b l e h) (within_from (request_of c d ops (length b)) n s b l)
