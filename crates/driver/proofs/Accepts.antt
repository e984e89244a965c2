-- Row 13 as the code goes through it, and that a saved call which it takes has small numbers, unless it has ended.
-- Assumes nothing.
use Rattle.std.specs.Prelude.{Option, Some, None, Result, Ok, Err, cond}
use Prim.Native.Nat.{ℕ, ◌≤◌, max}
use native.Mathlib.Omega.{arith}
use mathlib.Core.Path.{◌≡◌, refl, ◌∙◌, subst⁻¹}
use mathlib.Core.Bool.{Bool, true, false, ◌&&◌, ◌||◌}
use mathlib.Core.List.{List}
use borrow.Author.Tests.{le-ltb, leb-false}
use lib.Dec.{T, eqb, ltb, leb, leb→le}
use lib.ListN.{length}
use Rattle.calls.proofs.Accepted.{Known}
use Rattle.calls.specs.Calls.{Request, call_number}
use Rattle.calls.specs.Pieces.{pieces_for, view_of}
use Rattle.calls.specs.Refusals.{request_of, takes, accepts}
use Rattle.calls.specs.Steps.{same_step}
use Rattle.calls.specs.declared.Call.{Call}
use Rattle.calls.specs.declared.Description.{Description}
use Rattle.calls.specs.declared.Refusal.{Refusal}
use Rattle.calls.specs.declared.Refusal.TheVariants.{SavedCall as BadSavedCall}
use Rattle.calls.specs.declared.SavedCall.{SavedCall}
use Rattle.calls.specs.declared.Step.TheVariants.{Ended}
use Rattle.driver.proofs.Pieces.{inside, few_pieces}
use Rattle.calls.proofs.Fit.{Fit}
use Rattle.steps.specs.Bounds.{Small}
use Rattle.driver.specs.Views.{cursor_at, belongs, at_byte, stands_in, standing}
use Rattle.driver.specs.declared.view.Cursor.{Cursor}

module _ (c : Call) (d : Description) (ops : List ℕ) (n : ℕ) (s : SavedCall) (f : Fit c ops n) where
  abbrev q : Request
  q = request_of c d ops n

  -- a piece that is there has a number of sixteen bits
  no_piece : leb s.piece 65535 ≡ false → ltb s.piece (max 1 (length (pieces_for c ops n))) ≡ false
  no_piece h = le-ltb s.piece (max 1 (length (pieces_for c ops n))) (omega (arith, leb-false s.piece 65535 h, few_pieces c ops n f))

  -- first a step of this call, then, unless it has ended, where it stands
  accepts-is : accepts q s ≡ (belongs q s && (same_step s.step Ended || stands_in c ops n s))
  unfolding accepts
  accepts-is =
      go (eqb s.call (call_number c)) (same_step s.step Ended) (takes q s.step) (leb s.piece 65535)
      (ltb s.piece (max 1 (length (pieces_for c ops n)))) (at_byte c (view_of q s) s) no_piece
    where
      go : (a e t l p b : Bool) → (l ≡ false → p ≡ false) → (a && (e || (t && (p && b)))) ≡ ((a && (e || (t && l))) && (e || (p && b)))
      go false e t l p b h = refl
      go true true t l p b h = refl
      go true false false l p b h = refl
      go true false true true p b h = refl
      go true false true false p b h = rw (h refl)

  pub no_belonging : belongs q s ≡ false → accepts q s ≡ false
  no_belonging h = accepts-is ∙ rw h

  module _ (b : belongs q s ≡ true) where
    pub ended_taken : same_step s.step Ended ≡ true → accepts q s ≡ true
    ended_taken e = accepts-is ∙ rw (b, e)

    module _ (e : same_step s.step Ended ≡ false) where
      pub by_standing : (x : Bool) → stands_in c ops n s ≡ x → accepts q s ≡ x
      by_standing x h = accepts-is ∙ rw (b, e) h

      pub piece_small : s.piece ≤ 65535
      piece_small = leb→le s.piece 65535 (go (eqb s.call (call_number c)) (takes q s.step) _ (rw e at b))
        where
          go : (a t l : Bool) → (a && (t && l)) ≡ true → T l
          go false t l h = absurd (subst⁻¹ T h tt)
          go true false l h = absurd (subst⁻¹ T h tt)
          go true true l h = subst⁻¹ T h tt

  -- what the loop of an advance goes by: its numbers are small
  pub known_small : Known q s → Small s × ((view_of q s).size ≤ 65535)
  known_small k = omega (arith, k.piece, k.byte, few_pieces c ops n f, inside c ops n f s.piece, f.size)

-- ---- What the answer of row 13 says

pub record Stands (c : Call) (d : Description) (ops : List ℕ) (n : ℕ) (s : SavedCall) (p : Cursor) : Type 0 where
  pub accepted : accepts (request_of c d ops n) s ≡ true
  pub going : same_step s.step Ended ≡ false
  pub at : p ≡ cursor_at c ops n s.piece

module _ (c : Call) (d : Description) (ops : List ℕ) (n : ℕ) (s : SavedCall) where
  abbrev answer : Bool → Bool → Result (Option Cursor) Refusal
  answer a e = cond a (Ok (cond e None (Some (cursor_at c ops n s.piece)))) (Err BadSavedCall)

  pub stands : (p : Cursor) → standing c d ops n s ≡ Ok (Some p) → Stands c d ops n s p
  stands p = go (accepts (request_of c d ops n) s) (same_step s.step Ended) refl refl
    where
      go : (a e : Bool) → accepts (request_of c d ops n) s ≡ a → same_step s.step Ended ≡ e → answer a e ≡ Ok (Some p) → Stands c d ops n s p
      go true false x y h = record { accepted = x; going = y; at = cc }
      go true true x y h = cc
      go false e x y h = cc

  pub over : standing c d ops n s ≡ Ok None → (accepts (request_of c d ops n) s ≡ true) × (same_step s.step Ended ≡ true)
  over = go (accepts (request_of c d ops n) s) (same_step s.step Ended) refl refl
    where
      go : (a e : Bool) → accepts (request_of c d ops n) s ≡ a → same_step s.step Ended ≡ e → answer a e ≡ Ok None →
          (accepts (request_of c d ops n) s ≡ true) × (same_step s.step Ended ≡ true)
      go true true x y h = (x, y)
      go true false x y h = cc
      go false e x y h = cc

  pub refused : (why : Refusal) → standing c d ops n s ≡ Err why → (accepts (request_of c d ops n) s ≡ false) × (why ≡ BadSavedCall)
  refused why = go (accepts (request_of c d ops n) s) (same_step s.step Ended) refl
    where
      go : (a e : Bool) → accepts (request_of c d ops n) s ≡ a → answer a e ≡ Err why →
          (accepts (request_of c d ops n) s ≡ false) × (why ≡ BadSavedCall)
      go false e x h = (x, cc)
      go true true x h = cc
      go true false x h = cc
