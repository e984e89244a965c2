-- A call of a function that came back, for theorems that rest on contracts alone. T is the function's signature, with which of
-- its parameters are seen again at the end, and Post its contract: the kit makes both of the function's text, as the modules
-- `f` and `f.Reads`. Assumes nothing.
use contract.Lifetimes.{Lfts}
use denote.Triple.Clauses.{Ended, AtExit}
use denote.Triple.Entry.{Args, Res}

module _ (T : Ended) (Post : (κs : Lfts T.signature.lifetimes) → Args T.signature κs → Res T.signature κs → AtExit T κs → Type 0) where
  -- its arguments, its result, the parameters at its end, and that the contract holds of them
  pub record CameBack : Type 0 where
    pub lifetimes : Lfts T.signature.lifetimes
    pub given : Args T.signature lifetimes
    pub gave : Res T.signature lifetimes
    pub left : AtExit T lifetimes
    pub contract : Post lifetimes given gave left
