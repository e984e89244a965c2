-- Packing and unpacking undo each other (demand 2), for fields within their widths and for words whose bits 24 to 27
-- are 0. Assumes nothing.
use Rattle.std.specs.Prelude.{Ok}
use mathlib.Core.Path.{◌≡◌, ap, ◌∙◌}
use Prim.Native.Nat.{ℕ, ◌+◌, ◌*◌, ◌/◌, ◌%◌, ◌^◌, ◌<◌}
use native.Mathlib.Nat.{mod-eq_of_lt, div-one}
use native.Mathlib.Omega.{arith}
use borrow.Author.Tests.{le-leb}
use lib.Pow.{split, shr-shr, shr_mod}
use Rattle.fields.specs.Field.{get_of, put_of, bits_at}
use Rattle.fields.proofs.Laws.{get_put, get_apart, get_lt, put_on}
use Rattle.registers.specs.Places.{TIMINGR_PRESC, TIMINGR_SCLDEL, TIMINGR_SDADEL, TIMINGR_SCLH, TIMINGR_SCLL}
use Rattle.timing.specs.Timingr.{timingr_word, raw_of, pack_of, reserved, unpack_of}
use Rattle.timing.specs.declared.I2cTiming.{I2cTiming}
use Rattle.timing.specs.declared.RawTimingr.{RawTimingr}

pub record Within (t : I2cTiming) : Type 0 where
  pub presc : t.presc < 16
  pub scldel : t.scldel < 16
  pub sdadel : t.sdadel < 16
  pub sclh : t.sclh < 256
  pub scll : t.scll < 256

same : {p p' s s' d d' h h' l l' : ℕ} → p ≡ p' → s ≡ s' → d ≡ d' → h ≡ h' → l ≡ l'
    → ◌≡◌ {A = I2cTiming} (record { presc = p; scldel = s; sdadel = d; sclh = h; scll = l }) (record { presc = p'; scldel = s'; sdadel = d'; sclh = h'; scll = l' })
same e₁ e₂ e₃ e₄ e₅ = cc

-- a timing within the widths is packed, and unpacking its word gives it back
pub packs : (t : I2cTiming) → Within t → pack_of t ≡ Ok (raw_of t)
unfolding pack_of
packs t b = simp (le-leb t.presc 15 (omega arith), le-leb t.scldel 15 (omega arith), le-leb t.sdadel 15 (omega arith))

pub unpack_pack : (t : I2cTiming) → Within t → unpack_of (raw_of t) ≡ t
unfolding unpack_of
unpack_pack t b =
    same
    (simp (get_put, get_apart, tt {0}) (mod-eq_of_lt b.presc))
    (simp (get_put, get_apart, tt {0}) (mod-eq_of_lt b.scldel))
    (simp (get_put, get_apart, tt {0}) (mod-eq_of_lt b.sdadel))
    (simp (get_put, get_apart, tt {0}) (mod-eq_of_lt b.sclh))
    (simp (get_put, get_apart, tt {0}) (mod-eq_of_lt b.scll))

-- a word of fields within their widths is their sum
pub sum : (t : I2cTiming) → Within t
    → timingr_word t ≡ t.presc * 2 ^ 28 + (t.scldel * 2 ^ 20 + (t.sdadel * 2 ^ 16 + (t.sclh * 2 ^ 8 + t.scll)))
sum t b = rw (e₁, e₂, e₃, e₄) e₅
  where
    e₁ : put_of 0 TIMINGR_SCLL t.scll ≡ t.scll
    e₁ = put_on 0 TIMINGR_SCLL t.scll tt (omega arith) b.scll ∙ (let e : t.scll * 2 ^ 0 + 0 ≡ t.scll = omega arith in e)

    e₂ : put_of t.scll TIMINGR_SCLH t.sclh ≡ t.sclh * 2 ^ 8 + t.scll
    e₂ = put_on t.scll TIMINGR_SCLH t.sclh tt b.scll b.sclh

    e₃ : put_of (t.sclh * 2 ^ 8 + t.scll) TIMINGR_SDADEL t.sdadel ≡ t.sdadel * 2 ^ 16 + (t.sclh * 2 ^ 8 + t.scll)
    e₃ = put_on _ TIMINGR_SDADEL t.sdadel tt (omega (arith, b.scll, b.sclh)) b.sdadel

    e₄ : put_of (t.sdadel * 2 ^ 16 + (t.sclh * 2 ^ 8 + t.scll)) TIMINGR_SCLDEL t.scldel ≡ t.scldel * 2 ^ 20 + (t.sdadel * 2 ^ 16 + (t.sclh * 2 ^ 8 + t.scll))
    e₄ = put_on _ TIMINGR_SCLDEL t.scldel tt (omega (arith, b.scll, b.sclh, b.sdadel)) b.scldel

    e₅ : put_of (t.scldel * 2 ^ 20 + (t.sdadel * 2 ^ 16 + (t.sclh * 2 ^ 8 + t.scll))) TIMINGR_PRESC t.presc
        ≡ t.presc * 2 ^ 28 + (t.scldel * 2 ^ 20 + (t.sdadel * 2 ^ 16 + (t.sclh * 2 ^ 8 + t.scll)))
    e₅ = put_on _ TIMINGR_PRESC t.presc tt (omega (arith, b.scll, b.sclh, b.sdadel, b.scldel)) b.presc

-- what unpacking gives is within the widths
within : (r : RawTimingr) → Within (unpack_of r)
unfolding unpack_of
within r =
    record {
      presc = get_lt r.0 TIMINGR_PRESC;
      scldel = get_lt r.0 TIMINGR_SCLDEL;
      sdadel = get_lt r.0 TIMINGR_SDADEL;
      sclh = get_lt r.0 TIMINGR_SCLH;
      scll = get_lt r.0 TIMINGR_SCLL;
    }

-- the digits from bit k on are those from k + j on, and the j between
step : (w k j : ℕ) → w / 2 ^ (k + j) * 2 ^ j + w / 2 ^ k % 2 ^ j ≡ w / 2 ^ k
step w k j = rw (← shr-shr, split)

digits : (w a b c d e l h sd sc z p : ℕ) → a * 2 ^ 8 + l ≡ w → b * 2 ^ 8 + h ≡ a → c * 2 ^ 4 + sd ≡ b → d * 2 ^ 4 + sc ≡ c
    → e * 2 ^ 4 + z ≡ d → z ≡ 0 → p ≡ e → p * 2 ^ 28 + (sc * 2 ^ 20 + (sd * 2 ^ 16 + (h * 2 ^ 8 + l))) ≡ w
digits w a b c d e l h sd sc z p h₁ h₂ h₃ h₄ h₅ h₆ h₇ = omega arith

whole : (r : RawTimingr) → r.0 < 2 ^ 32 → get_of r.0 reserved ≡ 0
    → (let u = unpack_of r in u.presc * 2 ^ 28 + (u.scldel * 2 ^ 20 + (u.sdadel * 2 ^ 16 + (u.sclh * 2 ^ 8 + u.scll)))) ≡ r.0
unfolding unpack_of get_of bits_at
whole r h z =
    let w = r.0 in
    digits w (w / 2 ^ 8) (w / 2 ^ 16) (w / 2 ^ 20) (w / 2 ^ 24) (w / 2 ^ 28) _ _ _ _ _ _
    (step w 0 8 ∙ div-one w) (step w 8 8) (step w 16 4) (step w 20 4) (step w 24 4) z (shr_mod 4 28 h)

pub pack_unpack : (r : RawTimingr) → r.0 < 2 ^ 32 → get_of r.0 reserved ≡ 0 → pack_of (unpack_of r) ≡ Ok r
pack_unpack r h z =
    packs (unpack_of r) (within r)
    ∙ ap (λ (x : ℕ). Ok (record { 0 = x })) (sum (unpack_of r) (within r) ∙ whole r h z)
