-- The step that is found for a number has that number. Assumes nothing.
use Rattle.std.specs.Prelude.{Option, Some, None}
use Prim.Native.Nat.{ℕ}
use mathlib.Core.Path.{◌≡◌, sym}
use mathlib.Core.List.{List, [], ◌∷◌}
use lib.Dec.{eqb, eqb→eq}
use Rattle.calls.proofs.Logic.{by_test}
use Rattle.calls.specs.Steps.{step_number, steps}
use Rattle.calls.specs.declared.Step.{Step}
use Rattle.saved.specs.Saved.{step_in, step_at}

abbrev pub Numbered : ℕ → Option Step → Type 0
Numbered n (Some t) = step_number t ≡ n
Numbered n None = Unit {0}

step_in_holds : (ts : List Step) (n : ℕ) → Numbered n (step_in ts n)
step_in_holds [] n = tt
step_in_holds (t ∷ ts) n =
    by_test (Numbered n) (eqb n (step_number t)) (λ h. sym (eqb→eq n (step_number t) h)) (λ _. step_in_holds ts n)

pub number_back : (n : ℕ) → Numbered n (step_at n)
unfolding step_at
number_back n = step_in_holds steps n
