-- What an advance needs of its answers. Assumes nothing.
use Prim.Native.Nat.{ℕ, zero, suc, ◌≤◌}
use native.Mathlib.Omega.{arith}
use mathlib.Core.Path.{◌≡◌, refl, ap}
use mathlib.Core.List.{List, [], ◌∷◌}
use lib.ListN.{length, take, set}
use Rattle.registers.specs.declared.Register.TheVariants.{Rxdr}
use Rattle.calls.proofs.Cut.{runs}
use Rattle.calls.proofs.Joined.{Kind, kind, run, refused}
use Rattle.calls.specs.Calls.{Request}
use Rattle.calls.specs.Refusals.{request_of}
use Rattle.calls.specs.Run.{read_entry, write_entry, byte_of, wrote, took, turn_of, advance_from, run_of}
use Rattle.calls.specs.Steps.{access_of, after_of}
use Rattle.calls.specs.declared.Access.{Access}
use Rattle.calls.specs.declared.Access.TheVariants.{Read, Take, Write, Nothing}
use Rattle.calls.specs.declared.Description.{Description}
use Rattle.calls.specs.declared.SavedCall.{SavedCall}

-- over k places no more than k answers are looked at
module _ (q : Request) where
  enough_turn : (k m : ℕ) (s : SavedCall) (b l : List ℕ) (x : Access) → suc k ≤ m
      → ((m : ℕ) (s : SavedCall) (b l : List ℕ) → k ≤ m → advance_from q k s b (take m l) ≡ advance_from q k s b l)
      → turn_of (advance_from q k) q s b (take m l) x ≡ turn_of (advance_from q k) q s b l x
  enough_turn k m s b l Nothing h ih = refl
  enough_turn k m s b l (Write r v) h ih = ap (wrote (write_entry r v)) (ih m (after_of q s 0) b l (omega arith))
  enough_turn k zero s b l (Read r) h ih = absurd (omega arith)
  enough_turn k (suc m) s b [] (Read r) h ih = refl
  enough_turn k (suc m) s b (a ∷ l) (Read r) h ih = ap (took (read_entry r a)) (ih m (after_of q s a) b l (omega arith))
  enough_turn k zero s b l (Take i) h ih = absurd (omega arith)
  enough_turn k (suc m) s b [] (Take i) h ih = refl
  enough_turn k (suc m) s b (a ∷ l) (Take i) h ih =
      ap (took (read_entry Rxdr a)) (ih m (after_of q s a) (set b i (byte_of a)) l (omega arith))

  enough : (k m : ℕ) (s : SavedCall) (b l : List ℕ) → k ≤ m → advance_from q k s b (take m l) ≡ advance_from q k s b l
  unfolding advance_from
  enough zero m s b l h = refl
  enough (suc k) m s b l h = enough_turn k m s b l (access_of q b s) h (enough k)

pub enough_answers : (d : Description) (ops : List ℕ) (k m : ℕ) (s : SavedCall) (b l : List ℕ) → k ≤ m →
    run_of d ops k s b (take m l) ≡ run_of d ops k s b l
enough_answers d ops k m s b l h = go (kind d ops s b)
  where
    go : Kind d ops s b → run_of d ops k s b (take m l) ≡ run_of d ops k s b l
    go (refused r f) = rw (f k (take m l), f k l)
    go (run c e a) = rw (runs c d ops k s b (take m l) e a, runs c d ops k s b l e a) (enough (request_of c d ops (length b)) k m s b l h)
