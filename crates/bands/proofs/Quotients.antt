-- Quotients by a number that is not fixed, and the prescaler of a cycle. Assumes nothing.
use mathlib.Core.Path.{refl}
use Prim.Native.Nat.{ℕ, ◌+◌, ◌-◌, ◌*◌, ◌/◌, ◌≤◌, ◌<◌}
use native.Mathlib.Nat.{le-div_iff_mul-le, div-lt_iff_lt-mul, div-mul-le_self, lt-div-mul-add, mul-le-mul_left}
use native.Mathlib.Omega.{arith}
use Rattle.timing.specs.Bands.{divider_of}
use Rattle.bands.specs.Bounds.{Divider}

pub quot_ge : (k r p : ℕ) → 1 ≤ p → k * p ≤ r → k ≤ r / p
quot_ge k r p h l = (le-div_iff_mul-le h).1 l

pub quot_lt : (k r p : ℕ) → 1 ≤ p → r < k * p → r / p < k
quot_lt k r p h l = (div-lt_iff_lt-mul h).1 l

pub divides : (r d : ℕ) → 4 ≤ r → 8 ≤ d → d ≤ 256 → Divider r d (divider_of r d)
divides r d h l m =
    record { is = refl; some = omega arith; few = omega (arith, f₁, f₂); enough = omega (arith, f₃, f₄) }
  where
    q : ℕ
    q = (r - 1) / d

    f₁ : q * 8 ≤ q * d
    f₁ = mul-le-mul_left q l

    f₂ : q * d ≤ r - 1
    f₂ = div-mul-le_self (r - 1) d

    f₃ : r - 1 < q * d + d
    f₃ = lt-div-mul-add (omega arith)

    f₄ : q * d ≤ q * 256
    f₄ = mul-le-mul_left q m

-- how many steps a cycle has
pub most_steps : {r d p : ℕ} → Divider r d p → r / p ≤ 256
most_steps {r} {d} {p} u = omega (arith, quot_lt 257 r p u.some (omega arith))
