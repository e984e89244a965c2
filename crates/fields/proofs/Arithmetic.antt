-- The laws of `bits_at` and `with_bits`, over position and width, and the masks that compute them. Assumes nothing.
use mathlib.Core.Path.{◌≡◌, sym, ap, ap₂, ◌∙◌, subst}
use Prim.Native.Nat.{ℕ, ◌+◌, ◌-◌, ◌*◌, ◌/◌, ◌%◌, ◌^◌, ◌≤◌, ◌<◌}
use native.Mathlib.Nat.{mod-lt, mod-mod, sub-add_cancel, add-mul, add-zero, zero-add, zero-mul, zero-div, div-eq_of_lt, mod-eq_of_lt}
use native.Mathlib.Omega.{arith}
use lib.Arith.{digits_lt}
use lib.Bits.{bit_and, bit_or, and_mask, and_block, and_high, or_block, or_shifted, or_zero_r}
use lib.Pow.{pow_pos, pow-add, split, high, low, field, mod-mod-pow, shr-shr, shr_lt, shl_exact, ones_split, ones_lt, high_ones}
use Rattle.fields.specs.Field.{bits_at, with_bits}

pub bits_lt : (w a n : ℕ) → bits_at w a n < 2 ^ n
unfolding bits_at
bits_lt w a n = mod-lt (w / 2 ^ a) (pow_pos n)

module _ (w a n v : ℕ) where
  -- below the field nothing changes
  below : with_bits w a n v % 2 ^ a ≡ w % 2 ^ a
  unfolding with_bits
  below = low _ a (mod-lt w (pow_pos a))

  from : with_bits w a n v / 2 ^ a ≡ w / 2 ^ a / 2 ^ n * 2 ^ n + v % 2 ^ n
  unfolding with_bits
  from = high _ a (mod-lt w (pow_pos a))

  -- nor above it
  above : with_bits w a n v / 2 ^ a / 2 ^ n ≡ w / 2 ^ a / 2 ^ n
  above = rw from (high _ n (mod-lt v (pow_pos n)))

  pub bits_with : bits_at (with_bits w a n v) a n ≡ v % 2 ^ n
  unfolding bits_at
  bits_with = rw from (low _ n (mod-lt v (pow_pos n)))

pub with_low : (w a n u v : ℕ) → u % 2 ^ n ≡ v % 2 ^ n → with_bits w a n u ≡ with_bits w a n v
unfolding with_bits
with_low w a n u v e = rw e

pub with_with : (w a n u v : ℕ) → with_bits (with_bits w a n u) a n v ≡ with_bits w a n v
unfolding with_bits
with_with w a n u v =
    ap₂ (λ (h l : ℕ). (h * 2 ^ n + v % 2 ^ n) * 2 ^ a + l) (above w a n u) (below w a n u)

pub with_bits_holds : (w a n : ℕ) → with_bits w a n (bits_at w a n) ≡ w
unfolding with_bits bits_at
with_bits_holds w a n = rw (mod-mod, split, split)

-- a field put above all that is set is added
pub with_on : (w a n v : ℕ) → w < 2 ^ a → v < 2 ^ n → with_bits w a n v ≡ v * 2 ^ a + w
unfolding with_bits
with_on w a n v hw hv = simp (div-eq_of_lt hw, zero-div, zero-mul, zero-add, mod-eq_of_lt hv, mod-eq_of_lt hw)

-- a field goes by the bits below its end
lower : (w b m a : ℕ) → b + m ≤ a → bits_at (w % 2 ^ a) b m ≡ bits_at w b m
unfolding bits_at
lower w b m a h =
    sym (field (w % 2 ^ a) m b)
    ∙ ap (λ (x : ℕ). x / 2 ^ b)
    (subst (λ (x : ℕ). w % 2 ^ x % 2 ^ (m + b) ≡ w % 2 ^ (m + b)) (sub-add_cancel {n = a} {m = m + b} (omega arith))
    (mod-mod-pow w (a - (m + b)) (m + b)))
    ∙ field w m b

-- and by the bits from any earlier place on
upper : (w b m a n : ℕ) → a + n ≤ b → bits_at w b m ≡ bits_at (w / 2 ^ a / 2 ^ n) (b - (a + n)) m
unfolding bits_at
upper w b m a n h =
    ap (λ (x : ℕ). x % 2 ^ m)
    (ap (λ (x : ℕ). w / 2 ^ x) (let e : b ≡ a + n + (b - (a + n)) = omega arith in e)
    ∙ sym (shr-shr w (a + n) (b - (a + n)))
    ∙ ap (λ (x : ℕ). x / 2 ^ (b - (a + n))) (sym (shr-shr w a n)))

-- a field of a field is one of the word
pub bits_within : (w a n b m : ℕ) → b + m ≤ n → bits_at (bits_at w a n) b m ≡ bits_at w (a + b) m
unfolding bits_at
bits_within w a n b m h = lower (w / 2 ^ a) b m n h ∙ ap (λ (x : ℕ). x % 2 ^ m) (shr-shr w a b)

-- so a write leaves a field that ends at or before its own start, and one that starts at or after its end
pub bits_before : (w a n v b m : ℕ) → b + m ≤ a → bits_at (with_bits w a n v) b m ≡ bits_at w b m
bits_before w a n v b m h =
    sym (lower (with_bits w a n v) b m a h) ∙ ap (λ (x : ℕ). bits_at x b m) (below w a n v) ∙ lower w b m a h

pub bits_after : (w a n v b m : ℕ) → a + n ≤ b → bits_at (with_bits w a n v) b m ≡ bits_at w b m
bits_after w a n v b m h =
    upper (with_bits w a n v) b m a n h
    ∙ ap (λ (x : ℕ). bits_at x (b - (a + n)) m) (above w a n v)
    ∙ sym (upper w b m a n h)

-- a word keeps its size
pub with_lt : (w a n v s : ℕ) → w < 2 ^ s → a + n ≤ s → with_bits w a n v < 2 ^ s
unfolding with_bits
with_lt w a n v s hw h =
    subst (λ (x : ℕ). with_bits w a n v < x) e
    (digits_lt (digits_lt hi (mod-lt v (pow_pos n))) (mod-lt w (pow_pos a)))
  where
    k : s ≡ (s - (a + n)) + n + a
    k = omega arith

    e : 2 ^ (s - (a + n)) * 2 ^ n * 2 ^ a ≡ 2 ^ s
    e = rw (← pow-add, ← pow-add) (ap (λ (x : ℕ). 2 ^ x) (sym k))

    hi : w / 2 ^ a / 2 ^ n < 2 ^ (s - (a + n))
    hi = shr_lt (s - (a + n)) n (shr_lt ((s - (a + n)) + n) a (subst (λ (x : ℕ). w < 2 ^ x) k hw))

-- the bits above a field
abbrev room : ℕ → ℕ → ℕ
room a n = 32 - (a + n)

-- what the code computes with the mask m of n ones: the field's bits cleared, and the new ones set
module _ (w a n v m : ℕ) (hm : m ≡ 2 ^ n - 1) (hw : w < 2 ^ 32) (h : a + n ≤ 32) where
  placed : (bit_and v m * 2 ^ a) % 2 ^ 32 ≡ v % 2 ^ n * 2 ^ a
  placed = rw (hm, and_mask v n) (shl_exact n a 32 (mod-lt v (pow_pos n)) (omega arith))

  size : (room a n + n) + a ≡ 32
  size = omega arith

  others : (2 ^ 32 - 1) - (m * 2 ^ a) % 2 ^ 32 ≡ (2 ^ (room a n) - 1) * 2 ^ n * 2 ^ a + (2 ^ a - 1)
  others =
      rw (hm, shl_exact n a 32 (ones_lt n) (omega arith))
      (omega (arith, all, add-mul ((2 ^ (room a n) - 1) * 2 ^ n) (2 ^ n - 1) (2 ^ a)))
    where
      all : 2 ^ 32 - 1 ≡ ((2 ^ (room a n) - 1) * 2 ^ n + (2 ^ n - 1)) * 2 ^ a + (2 ^ a - 1)
      all =
          ap (λ (x : ℕ). 2 ^ x - 1) (sym size)
          ∙ ones_split (room a n + n) a
          ∙ ap (λ (x : ℕ). x * 2 ^ a + (2 ^ a - 1)) (ones_split (room a n) n)

  cleared : bit_and w ((2 ^ 32 - 1) - (m * 2 ^ a) % 2 ^ 32) ≡ w / 2 ^ a / 2 ^ n * 2 ^ n * 2 ^ a + w % 2 ^ a
  cleared =
      ap₂ bit_and (sym (split w a)) others
      ∙ and_block a (w / 2 ^ a) ((2 ^ (room a n) - 1) * 2 ^ n) (w % 2 ^ a) (2 ^ a - 1) (mod-lt w (pow_pos a)) (ones_lt a)
      ∙ ap₂ (λ (x y : ℕ). x * 2 ^ a + y)
      (ap (bit_and (w / 2 ^ a)) (sym (high_ones (room a n) n))
      ∙ and_high (w / 2 ^ a) (room a n) n
      ∙ ap (λ (x : ℕ). x * 2 ^ n)
      (mod-eq_of_lt (shr_lt (room a n) n (shr_lt (room a n + n) a (subst (λ (x : ℕ). w < 2 ^ x) (sym size) hw)))))
      (and_mask (w % 2 ^ a) a ∙ mod-mod w (2 ^ a))

  pub masked : bit_or (bit_and w ((2 ^ 32 - 1) - (m * 2 ^ a) % 2 ^ 32)) ((bit_and v m * 2 ^ a) % 2 ^ 32) ≡ with_bits w a n v
  unfolding with_bits
  masked =
      ap₂ bit_or cleared (placed ∙ sym (add-zero (v % 2 ^ n * 2 ^ a)))
      ∙ or_block a (w / 2 ^ a / 2 ^ n * 2 ^ n) (v % 2 ^ n) (w % 2 ^ a) 0 (mod-lt w (pow_pos a)) (pow_pos a)
      ∙ ap₂ (λ (x y : ℕ). x * 2 ^ a + y)
      (or_shifted (w / 2 ^ a / 2 ^ n) n (v % 2 ^ n) (mod-lt v (pow_pos n)))
      (or_zero_r (w % 2 ^ a))
