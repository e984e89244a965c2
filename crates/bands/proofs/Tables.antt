-- A table's rows looked at one after the other, and what that says of the whole table. Assumes nothing.
use Rattle.std.specs.Prelude.{Option, Some, None, Result, Ok, Err}
use Prim.Native.Nat.{ℕ, zero, suc, ◌-◌, ◌/◌, ◌%◌, ◌≤◌, ◌<◌}
use native.Mathlib.Omega.{arith}
use mathlib.Core.Path.{◌≡◌, refl, sym, ap, subst, ◌∙◌}
use mathlib.Core.Bool.{Bool, true, false, cond, ◌&&◌}
use mathlib.Core.List.{List, [], ◌∷◌}
use lib.Dec.{T, eqb, leb, ltb, leb→le}
use lib.ListN.{length, take, drop, length-drop}
use borrow.Author.Tests.{lt-ltb, le-ltb, lt-leb, le-leb, eq-eqb, ne_eqb, eqb-true, eqb-false}
use Rattle.fields.proofs.Laws.{and_l, and_r}
use Rattle.words.specs.Words.{word_at}
use Rattle.words.proofs.Turns.{rest}
use Rattle.timing.specs.declared.Band.{Band}
use Rattle.timing.specs.declared.TimingRefusal.TheVariants.{BadBands}
use Rattle.bands.specs.Bands.{sound, all_sound, rising_above, rising, accepted, loaded_of, band_for, by_found, timing_by}
use Rattle.bands.specs.Table.{band_in, bands_from, named, bands_in}
use Rattle.bands.specs.Bounds.{Sound, SoundIn, row_stands, rows_stand}
use Rattle.bands.proofs.Either.{either, by_bool}
use Rattle.timing.specs.declared.I2cTiming.{I2cTiming}
use Rattle.timing.specs.declared.TimingRefusal.{TimingRefusal}

-- ---- one row
pub sound_row : (b : Band) → T (sound b) → Sound b
sound_row b t =
    record {
      d_least = leb→le 8 b.d (search and_l);
      d_most = leb→le b.d 256 (search (and_l, and_r));
      sdadel_some = leb→le 1 b.sdadel (search (and_l, and_r));
      scldel_some = leb→le 1 b.scldel (search (and_l, and_r));
    }

-- ---- rows one after the other
and_false : (x : Bool) → (x && false) ≡ false
and_false true = refl
and_false false = refl

none : (bytes : List ℕ) → length bytes < 24 → length bytes / 24 ≡ 0
none bytes h = omega arith

one_more_holds : (bytes : List ℕ) → 24 ≤ length bytes → length bytes / 24 ≡ suc (length (drop 24 bytes) / 24)
one_more_holds bytes h = rw (length-drop 24 bytes) (omega arith)

-- What rows are all found to be is what is found of the rows that are left.
module _ (all : Bool) (last : ℕ) (bytes : List ℕ) (left : rows_stand last (length bytes / 24) bytes ≡ all) where
  pub rows_end : length bytes < 24 → true ≡ all
  rows_end h = (rw (none bytes h) at left)

  module _ (more : 24 ≤ length bytes) where
    pub row_falls : (t : Bool) → t ≡ row_stands bytes → t ≡ false → false ≡ all
    row_falls t e f = sym (rw (one_more_holds bytes more, ← e, f)) ∙ left

    module _ (upper : ℕ) (is : upper ≡ word_at bytes 0) where
      pub row_low : upper ≤ last → false ≡ all
      row_low h = sym (rw (one_more_holds bytes more, ← is, le-ltb last upper h) (and_false (row_stands bytes))) ∙ left

      pub row_next : (t : Bool) → t ≡ row_stands bytes → t ≡ true → last < upper
          → (let then = take (length bytes - 24) (drop 24 bytes) in rows_stand upper (length then / 24) then ≡ all)
      row_next t e f h = rw (rest bytes 24) (sym (rw (one_more_holds bytes more, ← e, f, ← is, lt-ltb last upper h)) ∙ left)

pub ruleset rows = (rows_end, row_falls, row_low, row_next)

-- The row of a frequency in the rows that are left is that of the table.
module _ (frequency : ℕ) (all : Option Band) (bytes : List ℕ) (left : band_for frequency (bands_from (length bytes / 24) bytes) ≡ all) where
  pub none_for : length bytes < 24 → None ≡ all
  none_for h = (rw (none bytes h) at left)

  module _ (more : 24 ≤ length bytes) (b : Band) (is : b ≡ band_in bytes) where
    pub found_here : frequency ≤ b.upper → Some b ≡ all
    found_here h =
        let k : frequency ≤ word_at bytes 0 = rw is at h in
        rw is (sym (rw (one_more_holds bytes more, le-leb frequency (word_at bytes 0) k)) ∙ left)

    pub not_here : b.upper < frequency
        → (let then = take (length bytes - 24) (drop 24 bytes) in band_for frequency (bands_from (length then / 24) then) ≡ all)
    not_here h =
        let k : word_at bytes 0 < frequency = rw is at h in
        rw (rest bytes 24) (sym (rw (one_more_holds bytes more, lt-leb frequency (word_at bytes 0) k)) ∙ left)

pub ruleset finds = (none_for, found_here, not_here)

-- ---- the whole table
length_bands : (n : ℕ) (bytes : List ℕ) → length (bands_from n bytes) ≡ n
length_bands zero bytes = refl
length_bands (suc n) bytes = ap suc (length_bands n (drop 24 bytes))

-- the same six tests, taken row by row
row_by_row : (a a' s s' u u' : Bool) → ((a && a') && ((s && s') && (u && u'))) ≡ ((a && s) && (u && (a' && (s' && u'))))
row_by_row false a' s s' u u' = refl
row_by_row true true false s' u u' = refl
row_by_row true false false s' u u' = refl
row_by_row true true true true u u' = refl
row_by_row true true true false true u' = refl
row_by_row true true true false false u' = refl
row_by_row true false true s' true u' = refl
row_by_row true false true s' false u' = refl

rows_stand_holds : (last n : ℕ) (bytes : List ℕ)
    → (named n bytes && (all_sound (bands_from n bytes) && rising_above last (bands_from n bytes))) ≡ rows_stand last n bytes
rows_stand_holds last zero bytes = refl
rows_stand_holds last (suc n) bytes =
    let then = drop 24 bytes in
    row_by_row (leb (word_at bytes 5) 1) (named n then) (sound (band_in bytes)) (all_sound (bands_from n then)) (ltb last (word_at bytes 0)) (rising_above (word_at bytes 0) (bands_from n then))
    ∙ rw (rows_stand_holds (word_at bytes 0) n then)

-- rows that are held back are not accepted
held_back : (w : Bool) (bs : List Band) → accepted (cond w bs []) ≡ (w && accepted bs)
unfolding accepted
held_back true bs = refl
held_back false bs = refl

module _ (bytes : List ℕ) where
  abbrev n : ℕ
  n = length bytes / 24

  tested : accepted (bands_in bytes)
      ≡ ((eqb (length bytes % 24) 0 && named n bytes) && (leb 1 n && (leb n 16 && (all_sound (bands_from n bytes) && rising (bands_from n bytes)))))
  unfolding bands_in accepted
  tested = held_back (eqb (length bytes % 24) 0 && named n bytes) (bands_from n bytes) ∙ rw (length_bands n bytes)

  pub accepted_rows : 24 ≤ length bytes → length bytes ≤ 384 → length bytes % 24 ≡ 0
      → accepted (bands_in bytes) ≡ (row_stands bytes && rows_stand (word_at bytes 0) (length (drop 24 bytes) / 24) (drop 24 bytes))
  accepted_rows least most whole =
      let then = drop 24 bytes in
      let m : ℕ = length then / 24 in
      tested
      ∙ rw (one_more_holds bytes least, eq-eqb (length bytes % 24) 0 whole, le-leb 1 (suc m) (omega arith), le-leb (suc m) 16 (rw (← one_more_holds bytes least) (omega arith)))
      (row_by_row (leb (word_at bytes 5) 1) (named m then) (sound (band_in bytes)) (all_sound (bands_from m then)) true (rising_above (word_at bytes 0) (bands_from m then))
      ∙ rw (rows_stand_holds (word_at bytes 0) m then))

  module _ (least : 24 ≤ length bytes) (most : length bytes ≤ 384) (whole : length bytes % 24 ≡ 0) (t : Bool) (first : t ≡ row_stands bytes) where
    pub table_falls : t ≡ false → false ≡ accepted (bands_in bytes)
    table_falls e = sym (accepted_rows least most whole ∙ rw (← first, e))

    pub table_stands : t ≡ true → (upper : ℕ) (u : Bool) → upper ≡ word_at bytes 0
        → (let then = take (length bytes - 24) (drop 24 bytes) in u ≡ rows_stand upper (length then / 24) then) → u ≡ accepted (bands_in bytes)
    table_stands e upper u f g = g ∙ sym (accepted_rows least most whole ∙ rw (← first, e, ← f, rest bytes 24))

  pub too_short : length bytes < 24 → false ≡ accepted (bands_in bytes)
  too_short h = sym (tested ∙ rw (none bytes h) (and_false (eqb (length bytes % 24) 0 && named 0 bytes)))

  pub not_whole : (length bytes % 24 ≡ 0 → ⊥) → false ≡ accepted (bands_in bytes)
  not_whole h = sym (tested ∙ rw (ne_eqb (length bytes % 24) 0 h))

  pub too_long : 384 < length bytes → false ≡ accepted (bands_in bytes)
  too_long h =
      by_bool (eqb (length bytes % 24) 0)
      (λ e. let w : length bytes % 24 ≡ 0 = eqb-true _ _ e in sym (tested ∙ rw (lt-leb n 16 (omega arith), and_false (leb 1 n)) (and_false (eqb (length bytes % 24) 0 && named n bytes))))
      (λ e. not_whole (eqb-false _ _ e))

pub ruleset tables = (too_short, too_long, not_whole, table_falls, table_stands)

-- ---- a table that is accepted
module _ (bytes : List ℕ) (good : accepted (bands_in bytes) ≡ true) where
  shown : (w : Bool) (bs : List Band) → accepted (cond w bs []) ≡ true → cond w bs [] ≡ bs
  unfolding accepted
  shown true bs e = refl
  shown false bs e = absurd (subst T (sym e) tt)

  pub bands_are : bands_in bytes ≡ bands_from (length bytes / 24) bytes
  unfolding bands_in
  bands_are = shown (eqb (length bytes % 24) 0 && named (length bytes / 24) bytes) (bands_from (length bytes / 24) bytes) good

pub sound_found : (frequency : ℕ) (bs : List Band) → T (all_sound bs) → SoundIn (band_for frequency bs)
sound_found frequency [] t = tt
sound_found frequency (b ∷ bs) t =
    either SoundIn (leb frequency b.upper) (Some b) (band_for frequency bs)
    (λ _. sound_row b (and_l (sound b) (all_sound bs) t)) (λ _. sound_found frequency bs (and_r (sound b) (all_sound bs) t))

pub all_sound_holds : (bs : List Band) → T (accepted bs) → T (all_sound bs)
unfolding accepted
all_sound_holds bs t = and_l (all_sound bs) (rising bs) (and_r (leb (length bs) 16) _ (and_r (leb 1 (length bs)) _ t))

-- ---- what is answered, by whether the table is accepted
module _ (bytes : List ℕ) (clock frequency : ℕ) where
  abbrev bs : List Band
  bs = bands_in bytes

  pub bad_bands : (why : TimingRefusal) → Err why ≡ loaded_of bs → Err why ≡ timing_by bs clock frequency
  unfolding loaded_of timing_by
  bad_bands why e =
      by_bool (accepted bs)
      (λ t. (let f : Err why ≡ Ok tt = e ∙ rw t in absurd (cc)))
      (λ t. rw t (let f : Err why ≡ Err BadBands = e ∙ rw t in let g : why ≡ BadBands = cc in ap (λ (r : TimingRefusal). Err r) g))

  module _ (is : Ok tt ≡ loaded_of bs) where
    good : accepted bs ≡ true
    unfolding loaded_of
    good = by_bool (accepted bs) (λ t. t) (λ t. (let f : Ok tt ≡ Err BadBands = is ∙ rw t in cc))

    module _ (found : Option Band) (here : found ≡ band_for frequency (bands_from (length bytes / 24) bytes)) where
      same_found : found ≡ band_for frequency bs
      same_found = here ∙ rw (bands_are bytes good)

      pub found_sound : SoundIn found
      found_sound = subst SoundIn (sym same_found) (sound_found frequency bs (all_sound_holds bs (subst T (sym good) tt)))

      pub by_its_row : (answer : Result I2cTiming TimingRefusal) → answer ≡ by_found clock frequency found → answer ≡ timing_by bs clock frequency
      unfolding timing_by
      by_its_row answer e = e ∙ rw (good, ← same_found)
