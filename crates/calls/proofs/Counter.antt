-- The saved call's access number is the number of accesses made, held at 4,294,967,295. Assumes nothing.
use Prim.Native.Nat.{ℕ, zero, suc, ◌+◌, ◌≤◌, min}
use native.Mathlib.Omega.{arith}
use mathlib.Core.Path.{◌≡◌}
use mathlib.Core.List.{List, [], ◌∷◌}
use lib.ListN.{length, set}
use Rattle.calls.specs.Calls.{Request}
use Rattle.calls.specs.Pieces.{view_of}
use Rattle.calls.specs.Run.{byte_of, uncut_turn, uncut_of}
use Rattle.calls.specs.Steps.{access_of, after_of, begin_of, one_more}
use Rattle.calls.specs.declared.Access.{Access}
use Rattle.calls.specs.declared.Access.TheVariants.{Read, Take, Write, Nothing}
use Rattle.calls.specs.declared.SavedCall.{SavedCall}
use Rattle.calls.proofs.Views.{noted_keeps, apply_keeps, noted_in, then_in, after_noted}

after_counts : (q : Request) (s : SavedCall) (a : ℕ) → (after_of q s a).accesses ≡ one_more s.accesses
after_counts q s a =
    rw (after_noted q s a, (apply_keeps (noted_in q s a) a (then_in q s a)).1, (noted_keeps (view_of q s) s a s.step).2)

abbrev most : ℕ
most = 4294967295

-- from any saved call
counts : (q : Request) (k : ℕ) (s : SavedCall) (b l : List ℕ) → s.accesses ≤ most
    → (uncut_of q k s b l).saved.accesses ≡ min (s.accesses + length (uncut_of q k s b l).log) most
unfolding uncut_of
counts q zero s b l h = omega arith
counts q (suc k) s b l h = go l (access_of q b s) (counts q k)
  where
    step : (a : ℕ) (b l : List ℕ) → ((s : SavedCall) (b l : List ℕ) → s.accesses ≤ most
        → (uncut_of q k s b l).saved.accesses ≡ min (s.accesses + length (uncut_of q k s b l).log) most)
        → (uncut_of q k (after_of q s a) b l).saved.accesses ≡ min (s.accesses + suc (length (uncut_of q k (after_of q s a) b l).log)) most
    step a b l ih = omega (arith, after_counts q s a, ih (after_of q s a) b l (omega (arith, after_counts q s a)))

    go : (l : List ℕ) (x : Access) → ((s : SavedCall) (b l : List ℕ) → s.accesses ≤ most
        → (uncut_of q k s b l).saved.accesses ≡ min (s.accesses + length (uncut_of q k s b l).log) most)
        → (uncut_turn (uncut_of q k) q s b l x).saved.accesses ≡ min (s.accesses + length (uncut_turn (uncut_of q k) q s b l x).log) most
    go l Nothing ih = omega arith
    go l (Write r v) ih = step 0 b l ih
    go [] (Read r) ih = omega arith
    go (a ∷ l) (Read r) ih = step a b l ih
    go [] (Take i) ih = omega arith
    go (a ∷ l) (Take i) ih = step a (set b i (byte_of a)) l ih

pub counts_accesses : (q : Request) (k : ℕ) (b l : List ℕ)
    → (uncut_of q k (begin_of q) b l).saved.accesses ≡ min (length (uncut_of q k (begin_of q) b l).log) most
unfolding begin_of
counts_accesses q k b l = omega (arith, counts q k (begin_of q) b l (omega arith))
