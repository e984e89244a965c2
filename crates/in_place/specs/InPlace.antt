-- An advance whose saved call is lent. Assumes nothing.
use Rattle.std.specs.Prelude.{ℕ, List}
use Rattle.calls.specs.Run.{Final, as_final}
use Rattle.calls.specs.declared.Advanced.{Advanced}
use Rattle.calls.specs.declared.SavedCall.{SavedCall}
use Rattle.in_place.specs.declared.Progress.{Progress}

-- what an advance by value returns: what is said, and the saved call
abbrev pub as_advanced : Progress → SavedCall → Advanced
as_advanced p s = record { used = p.used; written = p.written; saved = s; report = p.report }

-- so what is said, with saved call, buffer and log as they are left, is what an advance by value returns and leaves
abbrev pub in_place : Progress → SavedCall → List ℕ → List ℕ → Final
in_place p s b log = as_final (as_advanced p s) b log
