-- The bounds of a step's arithmetic: what it notes keeps them, and the code tests them. Assumes nothing.
use Prim.Native.Nat.{ℕ, ◌≤◌}
use mathlib.Core.Path.{◌≡◌}
use mathlib.Core.Bool.{Bool, true, false, cond, ◌&&◌}
use lib.Dec.{T, leb, leb→le}
use borrow.Author.Tests.{le-leb}
use Rattle.fields.proofs.Laws.{and_l, and_r}
use native.Mathlib.Omega.{arith}
use Rattle.calls.specs.Steps.{same_step, counted, found, noted}
use Rattle.calls.specs.declared.SavedCall.{SavedCall}
use Rattle.calls.specs.declared.Step.{Step}
use Rattle.calls.specs.declared.Step.TheVariants.{Byte, Address}
use Rattle.calls.specs.declared.View.{View}
use Rattle.steps.specs.Bounds.{Small, small}

either : (t : Bool) (x y : SavedCall) → Small x → Small y → Small (cond t x y)
either true x y h k = h
either false x y h k = k

pub small_noted : (v : View) (s : SavedCall) (a : ℕ) (t : Step) → v.size ≤ 65535 → Small s → Small (noted v s a t)
small_noted v s a t fits h =
    either (same_step t Byte) (counted v s) _ (record { piece = h.piece; byte = omega arith })
    (either (same_step t Address) (found s a) s (record { piece = h.piece; byte = h.byte }) h)

pub small_says : (v : View) (s : SavedCall) → T (small v s) → Small s × (v.size ≤ 65535)
small_says v s h =
    let r = and_r (leb s.piece 65535) (leb s.byte 65536 && leb v.size 65535) h in (
      record {
        piece = leb→le s.piece 65535 (and_l (leb s.piece 65535) _ h);
        byte = leb→le s.byte 65536 (and_l (leb s.byte 65536) _ r);
      },
      leb→le v.size 65535 (and_r (leb s.byte 65536) _ r),
    )

pub within : (v : View) (s x y : SavedCall) → Small s → v.size ≤ 65535 → cond (small v s) x y ≡ x
within v s x y h k = rw (le-leb s.piece 65535 h.piece, le-leb s.byte 65536 h.byte, le-leb v.size 65535 k)
