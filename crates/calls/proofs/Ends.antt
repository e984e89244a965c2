-- Every run ends: at most five writes follow one another, so a log of six places to each answer, and six more, is never
-- full. `run_ends` says so, and `whole_run` that such a run is the whole uncut run. Assumes nothing.
use Rattle.std.specs.Prelude.{Result, Ok, Err}
use Prim.Native.Nat.{ℕ, zero, suc, ◌+◌, ◌-◌, ◌*◌, ◌≤◌, ◌<◌}
use native.Mathlib.Omega.{arith}
use mathlib.Core.Path.{◌≡◌, refl, ◌∙◌}
use mathlib.Core.Bool.{Bool, true, false, not, ◌||◌}
use mathlib.Core.List.{List, [], ◌∷◌, append-nil}
use lib.Dec.{T, eqb, leb, leb→le, ltb→lt}
use lib.ListN.{length, drop, set, take-append-drop}
use lib.Seq.{drop-length}
use Rattle.registers.specs.declared.Register.{Register}
use Rattle.calls.specs.Next.{next_of}
use Rattle.calls.specs.declared.Next.TheVariants as next
use Rattle.calls.specs.Calls.{Request}
use Rattle.calls.specs.Joined.{is_full}
use Rattle.calls.specs.Pieces.{view_of}
use Rattle.calls.specs.Refusals.{request_of, check_of, accepts}
use Rattle.calls.specs.Run.{byte_of, here, uncut_turn, uncut_of, no_call, begun_of, Run, stops, turn_of, advance_from, run_of}
use Rattle.calls.specs.Steps.{access_at, access_of, after_of, same_step, begin_of}
use Rattle.calls.specs.Whole.{stop_at, Whole, WholeCall}
use Rattle.calls.specs.declared.Access.{Access}
use Rattle.calls.specs.declared.Access.TheVariants.{Read, Take, Write, Nothing}
use Rattle.calls.specs.declared.Call.{Call}
use Rattle.calls.specs.declared.Description.{Description}
use Rattle.calls.specs.declared.Refusal.{Refusal}
use Rattle.calls.specs.declared.Report.TheVariants.{Full, Refused}
use Rattle.calls.specs.declared.SavedCall.{SavedCall}
use Rattle.calls.specs.declared.Step.{Step}
use Rattle.calls.specs.declared.Step.TheVariants.{Ended}
use Rattle.calls.proofs.Accepted.{known, notes_well, accepted_after, accepted_begin}
use Rattle.calls.proofs.Along.{no_access}
use Rattle.calls.proofs.Cut.{RunCame, over', full', waiting', part, ended_stays, runs}
use Rattle.calls.proofs.Every.{every_step}
use Rattle.calls.proofs.Fits.{rank, lower, fits}
use Rattle.calls.proofs.Joined.{Kind, run, refused, kind}
use Rattle.calls.proofs.Logic.{or_else, both, implies}
use Rattle.calls.proofs.Views.{step_of, apply_keeps, noted_in, then_in, after_noted}

-- ---- what is true of a rank, and of one access

most : (t : Step) → rank t ≤ 5
most t = leb→le (rank t) 5 (every_step (λ t. leb (rank t) 5) tt t)

abbrev is_write : Access → Bool
is_write (Read r) = false
is_write (Take i) = false
is_write (Write r v) = true
is_write Nothing = false

-- a step that writes has a rank, and leads to one of lower rank
write_ranked : (q : Request) (b : List ℕ) (s : SavedCall) → T (is_write (access_of q b s)) → T (not (eqb (rank s.step) 0))
unfolding access_of
write_ranked q b s h = implies (writes s.step) (ranked s.step) (every_step (λ t. ranked t || not (writes t)) tt s.step) h
  where
    writes : Step → Bool
    writes t = is_write (access_at q.call q.words (view_of q s) b s t)

    ranked : Step → Bool
    ranked t = not (eqb (rank t) 0)

write_lower : (q : Request) (b : List ℕ) (s : SavedCall) (a : ℕ) → T (accepts q s) → T (is_write (access_of q b s))
    → rank (after_of q s a).step < rank s.step
write_lower q b s a g h =
    let s' : SavedCall = noted_in q s a in
    let n : T (not (same_step s.step Ended)) = both (same_step s.step Ended) (λ e. absurd (rw (no_access q b s e) at h)) (λ n. n) in
    let k = known q s g n in
    let f = fits q s' a s.step (notes_well q s a s.step k).piece n k.taken in
    let r = lower s.step (step_of (then_in q s a)) f.edge in
    rw (after_noted q s a, (apply_keeps s' a (then_in q s a)).2)
    (ltb→lt _ _ (or_else (eqb (rank s.step) 0) _ r (write_ranked q b s h)))

-- ---- a run

module _ (q : Request) where
  ends_turn : (n : ℕ) (s : SavedCall) (b l : List ℕ) (x : Access) → access_of q b s ≡ x → T (accepts q s)
      → ((s : SavedCall) (b l : List ℕ) → T (accepts q s) → rank s.step + 6 * length l < n → T (not (is_full (advance_from q n s b l).report)))
      → rank s.step + 6 * length l < suc n → T (not (is_full (turn_of (advance_from q n) q s b l x).report))
  ends_turn n s b l Nothing e g ih h = tt
  ends_turn n s b l (Write r v) e g ih h = ih (after_of q s 0) b l (accepted_after q s 0 g) (omega (arith, write_lower q b s 0 g (rw e tt)))
  ends_turn n s b [] (Read r) e g ih h = tt
  ends_turn n s b (a ∷ l) (Read r) e g ih h = ih (after_of q s a) b l (accepted_after q s a g) (omega (arith, most (after_of q s a).step))
  ends_turn n s b [] (Take i) e g ih h = tt
  ends_turn n s b (a ∷ l) (Take i) e g ih h =
      ih (after_of q s a) (set b i (byte_of a)) l (accepted_after q s a g) (omega (arith, most (after_of q s a).step))

  ends : (n : ℕ) (s : SavedCall) (b l : List ℕ) → T (accepts q s) → rank s.step + 6 * length l < n
      → T (not (is_full (advance_from q n s b l).report))
  unfolding advance_from
  ends zero s b l g h = absurd (omega arith)
  ends (suc n) s b l g h = ends_turn n s b l (access_of q b s) refl g (ends n) h

-- with any saved call and description
never_full : (d : Description) (ops : List ℕ) (n : ℕ) (s : SavedCall) (b l : List ℕ) → 6 * (length l + 1) ≤ n
    → T (not (is_full (run_of d ops n s b l).report))
never_full d ops n s b l h = go (kind d ops s b)
  where
    go : Kind d ops s b → T (not (is_full (run_of d ops n s b l).report))
    go (refused r f) = rw (f n l) tt
    go (run c e g) = rw (runs c d ops n s b l e g) (ends (request_of c d ops (length b)) n s b l g (omega (arith, most s.step)))

pub run_ends : (d : Description) (ops : List ℕ) (n : ℕ) (s : SavedCall) (b l : List ℕ) → 6 * (length l + 1) ≤ n
    → (run_of d ops n s b l).report ≡ Full → ⊥
run_ends d ops n s b l h e = rw e at (never_full d ops n s b l h)

-- ---- such a run is the whole uncut run

-- a read without an answer stays where it is
waiting_stays : (q : Request) (m : ℕ) (s : SavedCall) (b : List ℕ) (r : Register) →
    next_of (access_of q b s) ≡ next.Read r → uncut_of q m s b [] ≡ here s b
unfolding uncut_of
waiting_stays q zero s b r h = refl
waiting_stays q (suc m) s b r h = go (access_of q b s) h
  where
    go : (x : Access) → next_of x ≡ next.Read r → uncut_turn (uncut_of q m) q s b [] x ≡ here s b
    go (Read k) h = refl
    go (Take i) h = refl
    go (Write k v) h = let z : ◌≡◌ {A = ℕ} 0 1 = cc in absurd (omega arith)
    go Nothing h = let z : ◌≡◌ {A = ℕ} 0 1 = cc in absurd (omega arith)

module _ (q : Request) (n : ℕ) (s : SavedCall) (b l : List ℕ) where
  abbrev R : Run
  R = advance_from q n s b l

  -- nothing more comes after it
  abbrev Stays : Type 0
  Stays = (m : ℕ) → uncut_of q m R.saved R.buffer (drop R.used l) ≡ here R.saved R.buffer

  whole_by : Stays → R.report ≡ stop_at R.saved.outcome (next_of (access_of q R.buffer R.saved)) → Whole q s b l R
  whole_by f r =
      let p = part q n s b l in
      record {
        run = λ k h.
            let e : length R.entries + (k - length R.entries) ≡ k = omega arith in
            (rw (take-append-drop, e) at (p.goes_on (k - length R.entries) (drop R.used l)))
            ∙ rw (f (k - length R.entries), append-nil);
        report = r;
        answers = p.answers;
      }

  whole : RunCame q n l R → T (not (is_full R.report)) → Whole q s b l R
  whole (over' e r) h =
      whole_by (λ m. ended_stays q m R.saved R.buffer (drop R.used l) e)
      (r ∙ rw (no_access q R.buffer R.saved e))
  whole (full' e w r) h = absurd (rw r at h)
  whole (waiting' k e w x u r) h =
      whole_by (λ m. rw (u, drop-length l) (waiting_stays q m R.saved R.buffer k x))
      (r ∙ rw x)

-- what begin handed out
begun_accepted : (c : Call) (d : Description) (ops : List ℕ) (n : ℕ) → check_of d ops n ≡ Ok c
    → (begun_of d ops n).saved ≡ begin_of (request_of c d ops n)
unfolding begun_of
begun_accepted c d ops n e = rw e

refused_run : (r : Refusal) (d : Description) (ops : List ℕ) (n : ℕ) (b l : List ℕ) → check_of d ops (length b) ≡ Err r
    → run_of d ops n (begun_of d ops (length b)).saved b l ≡ stops (Refused r) no_call b
unfolding begun_of run_of
refused_run r d ops n b l e = rw e

pub whole_run : (d : Description) (ops : List ℕ) (n : ℕ) (b l : List ℕ) → 6 * (length l + 1) ≤ n
    → WholeCall (check_of d ops (length b)) d ops b l (run_of d ops n (begun_of d ops (length b)).saved b l)
whole_run d ops n b l h = go (check_of d ops (length b)) refl
  where
    go : (v : Result Call Refusal) → check_of d ops (length b) ≡ v
        → WholeCall v d ops b l (run_of d ops n (begun_of d ops (length b)).saved b l)
    go (Err r) e = refused_run r d ops n b l e
    go (Ok c) e =
        let q : Request = request_of c d ops (length b) in
        let s : SavedCall = begin_of q in
        rw (begun_accepted c d ops (length b) e, runs c d ops n s b l e (accepted_begin q))
        (whole q n s b l (part q n s b l).came (ends q n s b l (accepted_begin q) (omega (arith, most s.step))))
