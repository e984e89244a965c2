-- A row's answer from what the code has worked out: a prescaler and a cycle of r / p steps. Assumes nothing.
use Rattle.std.specs.Prelude.{Err}
use Prim.Native.Nat.{ℕ, ◌/◌, ◌≤◌, ◌<◌}
use mathlib.Core.Path.{◌≡◌, refl}
use mathlib.Core.Bool.{Bool, true, false, ◌||◌}
use borrow.Author.Tests.{lt-ltb, le-ltb}
use lib.Dec.{ltb}
use Rattle.timing.specs.Bands.{divider_of}
use Rattle.timing.specs.declared.Band.{Band}
use Rattle.timing.specs.declared.Shape.{Shape}
use Rattle.timing.specs.declared.TimingRefusal.TheVariants.{SpeedLow}
use Rattle.bands.specs.Bands.{held_in, high_in, low_in, settled, shaped_in}

or_true : (x : Bool) → (x || true) ≡ true
or_true true = refl
or_true false = refl

module _ (s : Shape) (clock r : ℕ) (b : Band) (p : ℕ) (is : p ≡ held_in s (divider_of r b.d)) where
  pub prescaler_over : 16 < p → Err SpeedLow ≡ shaped_in s clock r b
  unfolding shaped_in
  prescaler_over h = rw (← is, lt-ltb 16 p h)

  pub high_over : 255 < high_in s (r / p) → Err SpeedLow ≡ shaped_in s clock r b
  unfolding shaped_in
  high_over h = rw (← is, lt-ltb 255 (high_in s (r / p)) h, or_true (ltb 16 p))

  pub all_fit : p ≤ 16 → high_in s (r / p) ≤ 255 → low_in s (r / p) ≤ 255
      → settled clock b p (high_in s (r / p)) (low_in s (r / p)) ≡ shaped_in s clock r b
  unfolding shaped_in
  all_fit m h l = rw (← is, le-ltb 16 p m, le-ltb 255 (high_in s (r / p)) h, le-ltb 255 (low_in s (r / p)) l)
