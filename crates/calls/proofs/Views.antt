-- The view of a request's running piece, in short; and what an access leaves of the saved call. Assumes nothing.
use Prim.Native.Nat.{ℕ, ◌+◌}
use mathlib.Core.Path.{◌≡◌, refl, sym, ap}
use mathlib.Core.Bool.{Bool}
use Rattle.calls.specs.Calls.{Request}
use Rattle.calls.specs.Pieces.{pieces_of, most_of, view_at, view_of, byte_there}
use Rattle.calls.specs.Steps.{apply_of, one_more, effect_at, same_step, noted, after_of}
use Rattle.calls.specs.declared.SavedCall.{SavedCall}
use Rattle.calls.specs.declared.Step.{Step}
use Rattle.calls.specs.declared.Step.TheVariants.{Ended, Wait, Byte, Address}
use Rattle.calls.specs.declared.Effect.{Effect}
use Rattle.calls.specs.declared.Effect.TheVariants.{Goes, Loads, Notes, Next, Enters, Fails, Ends}
use Rattle.calls.specs.declared.View.{View}
use Rattle.calls.proofs.Logic.{by_test}

abbrev pub there_in : Request → SavedCall → Bool
there_in q s = byte_there q.call (view_of q s) s

abbrev pub last_in : Request → SavedCall → Bool
last_in q s = (view_of q s).last

abbrev pub reads_in : Request → SavedCall → Bool
reads_in q s = (view_of q s).reads

abbrev pub size_in : Request → SavedCall → ℕ
size_in q s = (view_of q s).size

abbrev pub place_in : Request → SavedCall → ℕ
place_in q s = (view_of q s).start + s.byte

-- what BYTE and ADDRESS note leaves the rest as it was
pub noted_keeps : (v : View) (s : SavedCall) (a : ℕ) (t : Step) →
    ((noted v s a t).piece ≡ s.piece) × ((noted v s a t).call ≡ s.call) × ((noted v s a t).accesses ≡ s.accesses)
noted_keeps v s a t =
    by_test P (same_step t Byte) (λ _. (refl, refl, refl)) (λ _. by_test P (same_step t Address) (λ _. (refl, refl, refl)) (λ _. (refl, refl, refl)))
  where
    P : SavedCall → Type 0
    P x = (x.piece ≡ s.piece) × (x.call ≡ s.call) × (x.accesses ≡ s.accesses)

abbrev pub step_of : Effect → Step
step_of (Goes u) = u
step_of (Loads u) = u
step_of (Notes o u) = u
step_of (Next u) = u
step_of (Enters u) = u
step_of (Fails o) = Wait
step_of (Ends o) = Ended

-- whatever follows, it is the same call with one access more, at the step that follows
pub apply_keeps : (s : SavedCall) (a : ℕ) (n : Effect) →
    ((apply_of s a n).call ≡ s.call) × ((apply_of s a n).accesses ≡ one_more s.accesses) × ((apply_of s a n).step ≡ step_of n)
apply_keeps s a (Goes u) = (refl, refl, refl)
apply_keeps s a (Loads u) = (refl, refl, refl)
apply_keeps s a (Notes o u) = (refl, refl, refl)
apply_keeps s a (Next u) = (refl, refl, refl)
apply_keeps s a (Enters u) = (refl, refl, refl)
apply_keeps s a (Fails o) = (refl, refl, refl)
apply_keeps s a (Ends o) = (refl, refl, refl)

abbrev pub noted_in : Request → SavedCall → ℕ → SavedCall
noted_in q s a = noted (view_of q s) s a s.step

abbrev pub then_in : Request → SavedCall → ℕ → Effect
then_in q s a = effect_at q.call q.words (view_of q (noted_in q s a)) (noted_in q s a) a s.step

pub after_noted : (q : Request) (s : SavedCall) (a : ℕ) → after_of q s a ≡ apply_of (noted_in q s a) a (then_in q s a)
unfolding after_of
after_noted q s a =
    ap (λ (i : ℕ). apply_of (noted_in q s a) a (effect_at q.call q.words (view_at (pieces_of q) (most_of q) i) (noted_in q s a) a s.step))
    (sym (noted_keeps (view_of q s) s a s.step).0)
