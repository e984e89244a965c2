-- What `any` finds is what the definition finds, word by word.
use Rattle.std.proofs.Common.{◌∙◌, ◌||◌, ltb, refl, rules, tests}
use Rattle.std.specs.List.{list_any}
use Rattle.std.proofs.lemmas.Iterator.{YieldsList-from_slice}
use Rattle.std.proofs.lemmas.Iterator.Search.{any_from_yields_List}
use Rattle.std.proofs.lemmas.List.Recursion.{same_from_clauses}
use Rattle.benchfile.specs.Calls.{any_wide}
use Rattle.benchfile.proofs.head.has_wide.Goals as goal

pub returns : goal.returns
returns c =
    let words = c.args.words.now in
    any_from_yields_List (ltb 255) _ _ _ c.any.ensures.ran (YieldsList-from_slice words cc) (λ x b q k. search (rules, tests))
    ∙ same_from_clauses (list_any (ltb 255)) any_wide (λ w b. ltb 255 w || b) refl (λ _ _. refl) (λ _ _. refl) words
