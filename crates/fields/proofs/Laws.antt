-- The laws of a field, each over every place, word and value. Assumes nothing.
use mathlib.Core.Path.{◌≡◌, refl, ap}
use mathlib.Core.Bool.{Bool, true, false, cond, ◌&&◌, ◌||◌}
use Prim.Native.Nat.{ℕ, ◌+◌, ◌-◌, ◌*◌, ◌%◌, ◌^◌, ◌≤◌, ◌<◌}
use native.Mathlib.Omega.{arith}
use lib.Dec.{T, leb, ltb, leb→le, ltb→lt}
use lib.Pow.{pow_pos}
use Rattle.fields.specs.Field.{Place, place, inside, bits_at, with_bits, get_of, put_of, apart}
use Rattle.fields.proofs.Arithmetic.{bits_lt, bits_with, bits_within, with_low, with_with, with_bits_holds, with_on, bits_before, bits_after, with_lt}

-- by whether a place lies within the word
by : (P : Bool → Type 0) (b : Bool) → (T b → P true) → P false → P b
by P true f x = f tt
by P false f x = x

is_true : (b : Bool) → T b → b ≡ true
is_true true t = refl
is_true false t = absurd t

pub and_l : (a b : Bool) → T (a && b) → T a
and_l true b t = tt
and_l false b t = t

pub and_r : (a b : Bool) → T (a && b) → T b
and_r true b t = t
and_r false b t = absurd t

either : (a b : Bool) (P : Type 0) → (T a → P) → (T b → P) → T (a || b) → P
either true b P f g t = f t
either false b P f g t = g t

-- a field keeps its low bits
pub get_lt : (w : ℕ) (p : Place) → get_of w p < 2 ^ p.width
unfolding get_of
get_lt w p =
    by (λ (b : Bool). cond b (bits_at w p.at p.width) 0 < 2 ^ p.width) (inside p)
    (λ _. bits_lt w p.at p.width)
    (pow_pos p.width)

pub put_low : (w : ℕ) (p : Place) (u v : ℕ) → u % 2 ^ p.width ≡ v % 2 ^ p.width → put_of w p u ≡ put_of w p v
unfolding put_of
put_low w p u v e = ap (λ (x : ℕ). cond (inside p) x w) (with_low w p.at p.width u v e)

-- get after put
pub get_put : (w : ℕ) (p : Place) (v : ℕ) → T (inside p) → get_of (put_of w p v) p ≡ v % 2 ^ p.width
unfolding get_of put_of
get_put w p v t =
    rw (is_true (inside p) t) (bits_with w p.at p.width v)

-- put leaves every field that shares no bit
pub get_apart : (w : ℕ) (p q : Place) (v : ℕ) → T (apart p q) → get_of (put_of w p v) q ≡ get_of w q
unfolding get_of put_of
get_apart w p q v t =
    by (λ (b : Bool). cond (inside q) (bits_at (cond b (with_bits w p.at p.width v) w) q.at q.width) 0 ≡ get_of w q)
    (inside p)
    (λ _. ap (λ (x : ℕ). cond (inside q) x 0) kept)
    refl
  where
    kept : bits_at (with_bits w p.at p.width v) q.at q.width ≡ bits_at w q.at q.width
    kept =
        either (leb (p.at + p.width) q.at) (leb (q.at + q.width) p.at) _
        (λ h. bits_after w p.at p.width v q.at q.width (leb→le _ _ h))
        (λ h. bits_before w p.at p.width v q.at q.width (leb→le _ _ h))
        t

-- a field of a field is one of the word
pub get_within : (w : ℕ) (p q : Place) → T (inside p) → T (inside q) → T (inside (place (p.at + q.at) q.width)) →
    q.at + q.width ≤ p.width → get_of (get_of w p) q ≡ get_of w (place (p.at + q.at) q.width)
unfolding get_of
get_within w p q t u v h =
    rw (is_true (inside p) t, is_true (inside q) u, is_true (inside (place (p.at + q.at) q.width)) v)
    (bits_within w p.at p.width q.at q.width h)

-- put twice is the last put
pub put_put : (w : ℕ) (p : Place) (u v : ℕ) → put_of (put_of w p u) p v ≡ put_of w p v
unfolding put_of
put_put w p u v =
    by (λ (b : Bool). cond b (with_bits (cond b (with_bits w p.at p.width u) w) p.at p.width v) (cond b (with_bits w p.at p.width u) w)
    ≡ cond b (with_bits w p.at p.width v) w)
    (inside p)
    (λ _. with_with w p.at p.width u v)
    refl

-- putting back what was got changes nothing
pub put_get : (w : ℕ) (p : Place) → put_of w p (get_of w p) ≡ w
unfolding put_of get_of
put_get w p =
    by (λ (b : Bool). cond b (with_bits w p.at p.width (cond b (bits_at w p.at p.width) 0)) w ≡ w) (inside p)
    (λ _. with_bits_holds w p.at p.width)
    refl

-- a field put above all that is set is added
pub put_on : (w : ℕ) (p : Place) (v : ℕ) → T (inside p) → w < 2 ^ p.at → v < 2 ^ p.width → put_of w p v ≡ v * 2 ^ p.at + w
unfolding put_of
put_on w p v t hw hv = rw (is_true (inside p) t) (with_on w p.at p.width v hw hv)

-- a word stays a word
pub put_lt : (w : ℕ) (p : Place) (v : ℕ) → w < 2 ^ 32 → put_of w p v < 2 ^ 32
unfolding put_of
put_lt w p v h =
    by (λ (b : Bool). cond b (with_bits w p.at p.width v) w < 2 ^ 32) (inside p)
    (λ t. with_lt w p.at p.width v 32 h (ends t))
    h
  where
    ends : T (inside p) → p.at + p.width ≤ 32
    ends t = let l : p.at < 32 = ltb→lt _ _ (and_l (ltb p.at 32) _ t) in let m : p.width ≤ 32 - p.at = leb→le _ _ (and_r (ltb p.at 32) _ t) in omega arith
