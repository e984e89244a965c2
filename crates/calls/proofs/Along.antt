-- Induction along the run: what each access keeps holds after any number of them. `note` reads the log, an entry at a
-- time. Assumes nothing.
use Prim.Native.Nat.{ℕ, zero, suc}
use mathlib.Core.Path.{◌≡◌, refl, ap}
use mathlib.Core.Bool.{Bool, true, false, not, ◌||◌}
use mathlib.Core.List.{List, [], ◌∷◌}
use lib.Dec.{T}
use lib.ListN.{set}
use Rattle.registers.specs.declared.Register.TheVariants.{Rxdr}
use Rattle.calls.specs.Calls.{Request}
use Rattle.calls.specs.Pieces.{view_of}
use Rattle.calls.specs.Steps.{access_at, access_of, same_step, after_of, begin_of}
use Rattle.calls.specs.Refusals.{accepts}
use Rattle.calls.specs.Run.{Entry, read_entry, write_entry, byte_of, Uncut, uncut_turn, uncut_of}
use Rattle.calls.specs.declared.Access.{Access}
use Rattle.calls.specs.declared.Access.TheVariants.{Read, Take, Write, Nothing}
use Rattle.calls.specs.declared.SavedCall.{SavedCall}
use Rattle.calls.specs.declared.Step.{Step}
use Rattle.calls.specs.declared.Step.TheVariants.{Ended, Byte}
use Rattle.calls.proofs.Logic.{or_else, by_test, both}
use Rattle.calls.proofs.Every.{is_eq, every_step}
use Rattle.calls.proofs.Accepted.{accepted_after, accepted_begin}
use Rattle.calls.proofs.Views.{reads_in}

-- the entry that an access with the answer a makes, and what it stores
abbrev pub entry_of : Access → ℕ → Entry
entry_of Nothing a = record { code = 0; value = 0 }
entry_of (Read r) a = read_entry r a
entry_of (Take i) a = read_entry Rxdr a
entry_of (Write r v) a = write_entry r v

abbrev pub store_of : Access → ℕ → List ℕ → List ℕ
store_of Nothing a b = b
store_of (Read r) a b = b
store_of (Take i) a b = set b i (byte_of a)
store_of (Write r v) a b = b

abbrev pub made : Access → Bool
made Nothing = false
made (Read r) = true
made (Take i) = true
made (Write r v) = true

-- a saved call that has not ended has an access, and an ended one has none
pub has_access : (q : Request) (b : List ℕ) (s : SavedCall) → T (not (same_step s.step Ended)) → T (made (access_of q b s))
unfolding access_of
has_access q b s n =
    both (same_step s.step Byte)
    (λ e. rw (is_eq s.step Byte e) (by_test (λ (x : Access). T (made x)) (reads_in q s) (λ _. tt) (λ _. tt)))
    (λ m. or_else (same_step s.step Byte) _ (or_else (same_step s.step Ended) _ (other s.step) n) m)
  where
    other : (t : Step) → T (same_step t Ended || (same_step t Byte || made (access_at q.call q.words (view_of q s) b s t)))
    other = every_step (λ t. same_step t Ended || (same_step t Byte || made (access_at q.call q.words (view_of q s) b s t))) tt

pub no_access : (q : Request) (b : List ℕ) (s : SavedCall) → T (same_step s.step Ended) → access_of q b s ≡ Nothing
unfolding access_of
no_access q b s e = ap (access_at q.call q.words (view_of q s) b s) (is_eq s.step Ended e)

-- what a reader of the log has noted at its end
abbrev pub read_log : {Z : Type 0} → (Z → Entry → Z) → Z → List Entry → Z
read_log note z [] = z
read_log note z (e ∷ es) = read_log note (note z e) es

abbrev pub Keeps : Request → (Z : Type 0) → (Z → Entry → Z) → (Z → SavedCall → List ℕ → Type 0) → Type 0
Keeps q Z note Inv =
    (z : Z) (s : SavedCall) (b : List ℕ) (a : ℕ) → Inv z s b → T (made (access_of q b s)) →
    Inv (note z (entry_of (access_of q b s) a)) (after_of q s a) (store_of (access_of q b s) a b)

module _ (q : Request) (Z : Type 0) (note : Z → Entry → Z) (Inv : Z → SavedCall → List ℕ → Type 0)
    (keeps : Keeps q Z note Inv) where
  abbrev Holds : Z → Uncut → Type 0
  Holds z U = Inv (read_log note z U.log) U.saved U.buffer

  kept : (z : Z) (s : SavedCall) (b : List ℕ) (a : ℕ) (x : Access) → access_of q b s ≡ x → Inv z s b → T (made x) →
      Inv (note z (entry_of x a)) (after_of q s a) (store_of x a b)
  kept z s b a x e h = rw e at (keeps z s b a h)

  turn : (k : ℕ) → ((z : Z) (s : SavedCall) (b l : List ℕ) → Inv z s b → Holds z (uncut_of q k s b l)) →
      (z : Z) (s : SavedCall) (b l : List ℕ) (x : Access) → access_of q b s ≡ x → Inv z s b →
      Holds z (uncut_turn (uncut_of q k) q s b l x)
  turn k ih z s b l Nothing e h = h
  turn k ih z s b l (Write r v) e h = ih _ _ _ l (kept z s b 0 (Write r v) e h tt)
  turn k ih z s b [] (Read r) e h = h
  turn k ih z s b (a ∷ l) (Read r) e h = ih _ _ _ l (kept z s b a (Read r) e h tt)
  turn k ih z s b [] (Take i) e h = h
  turn k ih z s b (a ∷ l) (Take i) e h = ih _ _ _ l (kept z s b a (Take i) e h tt)

  pub along : (k : ℕ) (z : Z) (s : SavedCall) (b l : List ℕ) → Inv z s b → Holds z (uncut_of q k s b l)
  unfolding uncut_of
  along zero z s b l h = h
  along (suc k) z s b l h = turn k (along k) z s b l (access_of q b s) refl h

-- every saved call of a run is one that row 13 accepts
pub accepted_run : (q : Request) (k : ℕ) (b l : List ℕ) → T (accepts q (uncut_of q k (begin_of q) b l).saved)
accepted_run q k b l =
    along q (Unit {0}) (λ z e. z) (λ z s b. T (accepts q s)) (λ z s b a i m. accepted_after q s a i)
    k tt (begin_of q) b l (accepted_begin q)
