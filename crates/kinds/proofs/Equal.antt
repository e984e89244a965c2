-- The derived equality of calls is that of their numbers: of all listed ones, by computing. Assumes nothing.
use mathlib.Core.Path.{◌≡◌}
use mathlib.Core.Bool.{Bool, beq}
use Rattle.calls.specs.Calls.{is_call}
use Rattle.calls.specs.Refusals.{listed}
use Rattle.calls.specs.contracts.CallPartialEq.TheImpl as derived
use Rattle.calls.specs.declared.Call.{Call}
use Rattle.calls.proofs.Every.{all, every}
use Rattle.calls.proofs.Logic.{same}

abbrev both_say : Call → Call → Bool
unfolding is_call
both_say a b = beq (derived.ghosts.eq a b) (is_call a b)

pub derived_is_call : (a b : Call) → derived.ghosts.eq a b ≡ is_call a b
unfolding both_say
derived_is_call a b =
    same (derived.ghosts.eq a b) (is_call a b)
    (every (both_say a) (every (λ c. all (both_say c) listed) tt a) b)
