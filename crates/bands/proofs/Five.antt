-- With document 01's five bands the timing by a table is document 01's timing, for every clock and every frequency of 32 bits. That its two
-- limits of the ratio follow from the rows is shown here. Assumes nothing.
use Rattle.std.specs.Prelude.{Some, Result, Err}
use Prim.Native.Nat.{ℕ, ◌+◌, ◌-◌, ◌*◌, ◌/◌, ◌≤◌, ◌<◌, min}
use native.Mathlib.Nat.{div-mul-le_self, mul-le-mul_left, mul-le-mul_right}
use native.Mathlib.Omega.{arith}
use mathlib.Core.Path.{◌≡◌, refl, sym, subst, ◌∙◌}
use mathlib.Core.Bool.{Bool, true, false, cond}
use mathlib.Core.List.{List, [], ◌∷◌, ◌++◌}
use lib.Dec.{eqb, leb, ltb}
use borrow.Author.Tests.{lt-leb, le-leb, ne_eqb, ltb-false, leb-true, leb-false}
use Rattle.timing.specs.Bands.{bands, above, first_up_to, band_of, divider_of, equal_at, double_at, shaped_of, in_band_of, timing_of}
use Rattle.timing.specs.declared.Band.{Band}
use Rattle.timing.specs.declared.Shape.TheVariants.{Equal, Double}
use Rattle.timing.specs.declared.TimingRefusal.TheVariants.{Ratio}
use Rattle.bands.specs.Bands.{accepted, band_for, settled, shaped_in, in_row, by_row, by_found, timing_by, five_bands}
use Rattle.bands.specs.Bounds.{Sound, SoundIn, Divider}
use Rattle.bands.proofs.Either.{either, by_bool}
use Rattle.bands.proofs.Quotients.{quot_ge, quot_lt, divides, most_steps}
use Rattle.bands.proofs.Tables.{sound_row, sound_found}
use Rattle.bands.proofs.Shapes.{prescaler_over, high_over, all_fit}
use Rattle.timing.specs.declared.I2cTiming.{I2cTiming}
use Rattle.timing.specs.declared.TimingRefusal.{TimingRefusal}

by_limit : {P : Type 0} (k r : ℕ) → (k ≤ r → P) → (r < k → P) → P
by_limit k r f g = by_bool (leb k r) (λ e. f (leb-true k r e)) (λ e. g (leb-false k r e))

-- ---- one row

-- In an equal row of any d the halves are too long exactly from 8,224 clocks on.
module _ (clock r : ℕ) (b : Band) (sound : Sound b) (some : 4 ≤ r) where
  abbrev p : ℕ
  p = min 16 (divider_of r b.d)

  div : Divider r b.d (divider_of r b.d)
  div = divides r b.d some sound.d_least sound.d_most

  long : 8224 ≤ r → 255 < (r / p - 2) / 2
  long h =
      let e : p ≡ 16 = omega (arith, div.enough) in
      rw e (omega arith)

  short : r < 8224 → (r / p - 2) / 2 ≤ 255
  short h = omega (arith, quot_lt 514 r p (omega (arith, div.some)) (omega (arith, div.enough)))

  equal_same : shaped_in Equal clock r b ≡ shaped_of Equal clock r b
  unfolding equal_at settled
  equal_same =
      by_limit 8224 r
      (λ h. sym (high_over Equal clock r b p refl (long h)) ∙ rw (le-leb 8224 r h))
      (λ h. sym (all_fit Equal clock r b p refl (omega arith) (short h) (short h)) ∙ rw (lt-leb 8224 r h))

  -- In a double row of d 96 the prescaler is over 16 exactly from 1,537 clocks on. Refusal 6 does not come up where the clock leaves a setup time.
  double_same : b.d ≡ 96 → (divider_of r b.d ≤ 16 → 1 ≤ clock / b.scldel / divider_of r b.d) → shaped_in Double clock r b ≡ shaped_of Double clock r b
  unfolding double_at settled
  double_same e setup =
      by_limit 1537 r
      (λ h. sym (prescaler_over Double clock r b q refl (rw e (omega (arith, quot_ge 16 (r - 1) 96 (omega arith) (omega arith))))) ∙ rw (le-leb 1537 r h))
      (λ h.
      let few : q ≤ 16 = rw e (omega arith) in
      let steps = most_steps div in
      sym (all_fit Double clock r b q refl few (omega (arith, steps)) (omega (arith, steps)))
      ∙ rw (lt-leb 1537 r h, ne_eqb (clock / b.scldel / q) 0 (omega (arith, setup few))))
    where
      q : ℕ
      q = divider_of r b.d

-- ---- the five rows

-- where a row and a ratio fit together, both rules say the same
abbrev Same : ℕ → ℕ → Band → Type 0
Same clock r b = b.least ≤ clock → shaped_in b.shape clock r b ≡ shaped_of b.shape clock r b

-- A frequency above `least` leaves a setup time.
setup_left : (clock frequency least scldel : ℕ) → 1 ≤ scldel → 4 ≤ clock / frequency → least < frequency
    → (let q = (clock / frequency - 1) / 96 in (96 * q + 1) * (least + 1) ≤ clock → (q + 1) * scldel ≤ clock)
    → 1 ≤ clock / scldel / divider_of (clock / frequency) 96
setup_left clock frequency least scldel some ratio over enough =
    quot_ge 1 (clock / scldel) (q + 1) (omega arith) (omega (arith, quot_ge (q + 1) clock scldel some (enough f₄)))
  where
    r : ℕ
    r = clock / frequency

    q : ℕ
    q = (r - 1) / 96

    f₁ : r * frequency ≤ clock
    f₁ = div-mul-le_self clock frequency

    f₂ : r * (least + 1) ≤ r * frequency
    f₂ = mul-le-mul_left r (omega arith)

    f₃ : (96 * q + 1) * (least + 1) ≤ r * (least + 1)
    f₃ = mul-le-mul_right (least + 1) (omega arith)

    f₄ : (96 * q + 1) * (least + 1) ≤ clock
    f₄ = omega (arith, f₁, f₂, f₃)

module _ (clock frequency : ℕ) (ratio : 4 ≤ clock / frequency) where
  abbrev r : ℕ
  r = clock / frequency

  row_same : Same clock r (band_of frequency)
  unfolding band_of
  row_same =
      either (Same clock r) (leb frequency 7999) _ _ (λ _ _. equal_same clock r _ (sound_row _ tt) ratio) (λ _.
      either (Same clock r) (leb frequency 79999) _ _ (λ _ _. equal_same clock r _ (sound_row _ tt) ratio) (λ _.
      either (Same clock r) (leb frequency 100000) _ _ (λ _ _. equal_same clock r _ (sound_row _ tt) ratio) (λ e.
      either (Same clock r) (leb frequency 400000) _ _
      (λ _ h. double_same clock r _ (sound_row _ tt) ratio refl
      (λ _. setup_left clock frequency 100000 1000000 (omega arith) ratio (leb-false frequency 100000 e) (λ g. omega arith)))
      (λ f h. double_same clock r _ (sound_row _ tt) ratio refl
      (λ _. setup_left clock frequency 400000 4000000 (omega arith) ratio (leb-false frequency 400000 f) (λ g. omega arith))))))

-- two answers after the same test
after : (t : Bool) (x y z : Result I2cTiming TimingRefusal) → (t ≡ false → y ≡ z) → cond t x y ≡ cond t x z
after true x y z f = refl
after false x y z f = f refl

in_row_same : (clock frequency : ℕ) → 4 ≤ clock / frequency → in_row clock (clock / frequency) (band_of frequency) ≡ in_band_of clock (clock / frequency) (band_of frequency)
unfolding in_row in_band_of
in_row_same clock frequency ratio =
    after (ltb clock (band_of frequency).least) _ _ _ (λ e. row_same clock frequency ratio (ltb-false clock (band_of frequency).least e))

by_row_same : (clock frequency : ℕ)
    → by_row clock frequency (band_of frequency) ≡ cond (ltb (clock / frequency) 4) (Err Ratio) (in_band_of clock (clock / frequency) (band_of frequency))
by_row_same clock frequency =
    after (ltb (clock / frequency) 4) _ _ _ (λ e. in_row_same clock frequency (ltb-false (clock / frequency) 4 e))

pub by_five : (clock frequency : ℕ) → by_found clock frequency (Some (band_of frequency)) ≡ timing_of clock frequency
unfolding by_found timing_of
by_five clock frequency = after (eqb frequency 0) _ _ _ (λ _. after (ltb 250000000 clock) _ _ _ (λ _. by_row_same clock frequency))

-- ---- the table
row_cond : (t : Bool) (a b : Band) → cond t (Some a) (Some b) ≡ Some (cond t a b)
row_cond true a b = refl
row_cond false a b = refl

found_first : (frequency : ℕ) (bs : List Band) → frequency ≤ above.upper → band_for frequency (bs ++ (above ∷ [])) ≡ Some (first_up_to frequency bs)
found_first frequency [] h = rw (le-leb frequency above.upper h)
found_first frequency (b ∷ bs) h = rw (found_first frequency bs h) (row_cond (leb frequency b.upper) b (first_up_to frequency bs))

pub five_bands_holds : (clock frequency : ℕ) → frequency ≤ 4294967295 → timing_by five_bands clock frequency ≡ timing_of clock frequency
unfolding timing_by accepted band_of
five_bands_holds clock frequency h = rw (found_first frequency bands h) (by_five clock frequency)

-- every row of document 01 is sound, as rows of a table are
pub five_sound : (frequency : ℕ) → frequency ≤ 4294967295 → Sound (band_of frequency)
unfolding band_of
five_sound frequency h = subst SoundIn (found_first frequency bands h) (sound_found frequency five_bands tt)
