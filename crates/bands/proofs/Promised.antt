-- What `BandPromises` promises. Assumes nothing.
use Rattle.std.specs.Prelude.{Option, Some, None, Result, Ok, Err}
use Prim.Native.Nat.{ℕ, zero, suc, ◌-◌, ◌*◌, ◌/◌, ◌%◌, ◌≤◌, ◌<◌}
use native.Mathlib.Omega.{arith}
use mathlib.Core.Logic.{◌≢◌}
use mathlib.Core.Path.{◌≡◌, refl, sym, ap, subst, ◌∙◌}
use mathlib.Core.Bool.{Bool, true, false, cond, ◌&&◌, ◌||◌}
use mathlib.Core.List.{List, [], ◌∷◌, ◌++◌}
use lib.Dec.{T, eqb, leb, ltb, leb→le, ltb→lt, eqb→eq, lit<}
use lib.ListN.{length, drop, length-append, length-drop}
use lib.Seq.{drop-append_seam, drop-drop}
use borrow.Author.Tests.{lt-ltb, le-ltb, lt-leb, le-leb, eq-eqb, ne_eqb, ltb-false, leb-false, eqb-false}
use Rattle.fields.proofs.Laws.{and_l, and_r}
use Rattle.words.proofs.Round.{words_before, whole_words}
use Rattle.words.proofs.Turns.{bytes_append}
use Rattle.words.specs.Words.{words_from, words_in, word_at, bytes_of, Below}
use Rattle.timing.proofs.Round as round
use Rattle.timing.specs.Bands.{divider_of}
use Rattle.timing.specs.Refusals.{timing_refusal_number}
use Rattle.timing.specs.declared.Band.{Band}
use Rattle.timing.specs.declared.I2cTiming.{I2cTiming}
use Rattle.timing.specs.declared.Shape.{Shape}
use Rattle.timing.specs.declared.Shape.TheVariants.{Equal, Double}
use Rattle.timing.specs.declared.TimingRefusal.TheVariants.{BadBands, NoBand}
use Rattle.bands.specs.Bands.{sound, all_sound, rising_above, rising, accepted, held_in, high_in, low_in, settled, shaped_in, in_row, band_for, by_row, in_found, by_found, timing_by}
use Rattle.bands.specs.Bounds.{Sound}
use Rattle.bands.specs.Promises.{row_at, Rule, Words, BandPromises}
use Rattle.bands.specs.Table.{shape_of, shape_number, row_words, table_of, band_in, bands_from, named, bands_in}
use Rattle.bands.proofs.Either.{either}
use Rattle.bands.proofs.Fits.{Fits, bands_fit}
use Rattle.bands.proofs.Five.{five_bands_holds}
use Rattle.bands.proofs.Quotients.{divides, quot_ge}
use Rattle.bands.proofs.Tables.{sound_row, bands_are}
use Rattle.timing.specs.declared.TimingRefusal.{TimingRefusal}

-- ---- the rule
is_so : (t : Bool) → T t → t ≡ true
is_so true h = refl
is_so false h = absurd h

so : {t : Bool} → t ≡ true → T t
so e = subst T (sym e) tt

each_sound : (bs : List Band) (i : ℕ) → T (all_sound bs) → i < length bs → Sound (row_at bs i)
each_sound [] i t h = absurd (omega arith)
each_sound (b ∷ bs) zero t h = sound_row b (and_l (sound b) (all_sound bs) t)
each_sound (b ∷ bs) (suc i) t h = each_sound bs i (and_r (sound b) (all_sound bs) t) (omega arith)

-- every row of rows that rise above `last` is above it
all_above : (last : ℕ) (bs : List Band) (i : ℕ) → T (rising_above last bs) → i < length bs → last < (row_at bs i).upper
all_above last [] i t h = absurd (omega arith)
all_above last (b ∷ bs) zero t h = ltb→lt last b.upper (and_l (ltb last b.upper) _ t)
all_above last (b ∷ bs) (suc i) t h =
    let k = ltb→lt last b.upper (and_l (ltb last b.upper) _ t) in
    omega (arith, k, all_above b.upper bs i (and_r (ltb last b.upper) _ t) (omega arith))

risen : (bs : List Band) (i j : ℕ) → T (rising bs) → i < j → j < length bs → (row_at bs i).upper < (row_at bs j).upper
risen [] i j t h k = absurd (omega arith)
risen (b ∷ bs) i zero t h k = absurd (omega arith)
risen (b ∷ bs) zero (suc j) t h k = all_above b.upper bs j t (omega arith)
risen (b ∷ []) (suc i) (suc j) t h k = absurd (omega arith)
risen (b ∷ c ∷ bs) (suc i) (suc j) t h k = risen (c ∷ bs) i j (and_r (ltb b.upper c.upper) _ t) (omega arith) (omega arith)

only_so : (bs : List Band) → accepted bs ≡ true → Rule bs
unfolding accepted
only_so bs e =
    record {
      some = leb→le 1 (length bs) (and_l (leb 1 (length bs)) _ t);
      few = leb→le (length bs) 16 (and_l (leb (length bs) 16) _ u);
      d_least = λ i h. (each_sound bs i v h).d_least;
      d_most = λ i h. (each_sound bs i v h).d_most;
      sdadel = λ i h. (let s = (each_sound bs i v h).sdadel_some in omega arith);
      scldel = λ i h. (let s = (each_sound bs i v h).scldel_some in omega arith);
      rises = λ i j h k. risen bs i j (and_r (all_sound bs) (rising bs) (and_r (leb (length bs) 16) _ u)) h k;
    }
  where
    t : T (leb 1 (length bs) && (leb (length bs) 16 && (all_sound bs && rising bs)))
    t = so e

    u : T (leb (length bs) 16 && (all_sound bs && rising bs))
    u = and_r (leb 1 (length bs)) _ t

    v : T (all_sound bs)
    v = and_l (all_sound bs) (rising bs) (and_r (leb (length bs) 16) _ u)

sound_all : (bs : List Band) → ((i : ℕ) → i < length bs → sound (row_at bs i) ≡ true) → all_sound bs ≡ true
sound_all [] f = refl
sound_all (b ∷ bs) f = rw (f zero (omega arith)) (sound_all bs (λ i h. f (suc i) (omega arith)))

rise : (last : ℕ) (bs : List Band) → ((i : ℕ) → i < length bs → last < (row_at bs i).upper)
    → ((i j : ℕ) → i < j → j < length bs → (row_at bs i).upper < (row_at bs j).upper) → rising_above last bs ≡ true
rise last [] f g = refl
rise last (b ∷ bs) f g =
    rw (lt-ltb last b.upper (f zero (omega arith)))
    (rise b.upper bs (λ i h. g zero (suc i) (omega arith) (omega arith)) (λ i j h k. g (suc i) (suc j) (omega arith) (omega arith)))

rise_all : (bs : List Band) → ((i j : ℕ) → i < j → j < length bs → (row_at bs i).upper < (row_at bs j).upper) → rising bs ≡ true
rise_all [] g = refl
rise_all (b ∷ bs) g = rise b.upper bs (λ i h. g zero (suc i) (omega arith) (omega arith)) (λ i j h k. g (suc i) (suc j) (omega arith) (omega arith))

accepts : (bs : List Band) → Rule bs → accepted bs ≡ true
unfolding accepted
accepts bs R =
    rw (le-leb 1 (length bs) R.some, le-leb (length bs) 16 R.few, sound_all bs f, rise_all bs R.rises)
  where
    f : (i : ℕ) → i < length bs → sound (row_at bs i) ≡ true
    f i h =
        let s : (row_at bs i).sdadel ≢ 0 = R.sdadel i h in
        let c : (row_at bs i).scldel ≢ 0 = R.scldel i h in
        rw (le-leb 8 (row_at bs i).d (R.d_least i h), le-leb (row_at bs i).d 256 (R.d_most i h), le-leb 1 (row_at bs i).sdadel (omega arith), le-leb 1 (row_at bs i).scldel (omega arith))

-- ---- refusals 16 and 17
abbrev number_in : Result I2cTiming TimingRefusal → ℕ
number_in (Ok t) = 0
number_in (Err why) = timing_refusal_number why

abbrev Later : Result I2cTiming TimingRefusal → Type 0
Later t = number_in t < 16

shaped_later : (s : Shape) (clock r : ℕ) (b : Band) → Later (shaped_in s clock r b)
unfolding shaped_in settled
shaped_later s clock r b =
    let p = held_in s (divider_of r b.d) in
    let high = high_in s (r / p) in
    let low = low_in s (r / p) in
    either Later (ltb 16 p || (ltb 255 high || ltb 255 low)) _ _ (λ _. lit< tt)
    (λ _. either Later (eqb (clock / b.scldel / p) 0) _ _ (λ _. lit< tt) (λ _. lit< tt))

in_row_later : (clock r : ℕ) (b : Band) → Later (in_row clock r b)
unfolding in_row
in_row_later clock r b = either Later (ltb clock b.least) _ _ (λ _. lit< tt) (λ _. shaped_later b.shape clock r b)

by_row_later : (clock frequency : ℕ) (b : Band) → Later (by_row clock frequency b)
by_row_later clock frequency b = either Later (ltb (clock / frequency) 4) _ _ (λ _. lit< tt) (λ _. in_row_later clock (clock / frequency) b)

-- what can be said of a refusal, by where it was given: 16 by the table, 17 by the rows, the others later
module _ (bs : List Band) (clock frequency : ℕ) where
  bad_first : accepted bs ≡ false → timing_by bs clock frequency ≡ Err BadBands
  unfolding timing_by
  bad_first e = rw e

  abbrev Told : Result I2cTiming TimingRefusal → Type 0
  Told t = ((t ≡ Err BadBands → accepted bs ≡ false)
      × (t ≡ Err NoBand → (accepted bs ≡ true) × (frequency ≢ 0) × (clock ≤ 250000000) × (band_for frequency bs ≡ None)))

  later_told : (t : Result I2cTiming TimingRefusal) → Later t → Told t
  later_told t n = ((λ e. absurd (omega (arith, n, ap number_in e))), (λ e. absurd (omega (arith, n, ap number_in e))))

  row_told : accepted bs ≡ true → frequency ≢ 0 → clock ≤ 250000000 → (found : Option Band) → band_for frequency bs ≡ found → Told (in_found clock frequency found)
  row_told a n m (Some b) e = later_told _ (by_row_later clock frequency b)
  row_told a n m None e = ((λ f. absurd (omega (arith, ap number_in f))), (λ f. (a, n, m, e)))

  told : Told (timing_by bs clock frequency)
  unfolding timing_by by_found
  told =
      either Told (accepted bs) _ _
      (λ a. either Told (eqb frequency 0) _ _ (λ _. later_told _ (lit< tt))
      (λ n. either Told (ltb 250000000 clock) _ _ (λ _. later_told _ (lit< tt))
      (λ m. row_told a (eqb-false frequency 0 n) (ltb-false 250000000 clock m) (band_for frequency bs) refl)))
      (λ a. ((λ _. a), (λ f. absurd (omega (arith, ap number_in f)))))

  above_first : accepted bs ≡ true → frequency ≢ 0 → clock ≤ 250000000 → band_for frequency bs ≡ None → timing_by bs clock frequency ≡ Err NoBand
  unfolding timing_by by_found
  above_first a n m e = rw (a, ne_eqb frequency 0 n, le-ltb 250000000 clock m, e)

-- no row is found exactly if every row ends below the frequency
none_found : (frequency : ℕ) (bs : List Band) → ((i : ℕ) → i < length bs → (row_at bs i).upper < frequency) → band_for frequency bs ≡ None
none_found frequency [] f = refl
none_found frequency (b ∷ bs) f = rw (lt-leb frequency b.upper (f zero (omega arith))) (none_found frequency bs (λ i h. f (suc i) (omega arith)))

abbrev IsAbove : Option Band → Type 0
IsAbove None = Unit {0}
IsAbove (Some b) = ⊥

not_row : (t : Bool) (b : Band) (found : Option Band) → IsAbove (cond t (Some b) found) → (t ≡ false) × IsAbove found
not_row true b found h = absurd h
not_row false b found h = (refl, h)

all_below : (frequency : ℕ) (bs : List Band) → IsAbove (band_for frequency bs) → (i : ℕ) → i < length bs → (row_at bs i).upper < frequency
all_below frequency [] a i h = absurd (omega arith)
all_below frequency (b ∷ bs) a zero h = leb-false frequency b.upper (not_row (leb frequency b.upper) b (band_for frequency bs) a).0
all_below frequency (b ∷ bs) a (suc i) h = all_below frequency bs (not_row (leb frequency b.upper) b (band_for frequency bs) a).1 i (omega arith)

-- ---- steps of a cycle
held_few : (s : Shape) (p : ℕ) → held_in s p ≤ p
held_few Equal p = omega arith
held_few Double p = omega arith

held_some : (s : Shape) (p : ℕ) → 1 ≤ p → 1 ≤ held_in s p
held_some Equal p h = omega arith
held_some Double p h = h

four_steps : (s : Shape) (r d : ℕ) → 8 ≤ d → d ≤ 256 → 4 ≤ r → 4 ≤ r / held_in s (divider_of r d)
four_steps s r d l m h =
    let u = divides r d h l m in
    quot_ge 4 r (held_in s (divider_of r d)) (held_some s (divider_of r d) u.some) (omega (arith, held_few s (divider_of r d), u.few))

-- ---- rows as bytes, and read back
shape_back : (s : Shape) → shape_of (shape_number s) ≡ s
shape_back Equal = refl
shape_back Double = refl

shape_named : (s : Shape) → leb (shape_number s) 1 ≡ true
shape_named Equal = refl
shape_named Double = refl

module _ (b : Band) (more : List ℕ) (w : Below 4294967296 (row_words b)) where
  read : words_in (bytes_of (row_words b) ++ more) ≡ row_words b ++ words_in more
  read = words_before (row_words b) more w

  band_back : band_in (bytes_of (row_words b) ++ more) ≡ b
  band_back = rw (read, shape_back b.shape)

  named_back : leb (word_at (bytes_of (row_words b) ++ more) 5) 1 ≡ true
  named_back = rw read (shape_named b.shape)

  rest_back : drop 24 (bytes_of (row_words b) ++ more) ≡ more
  rest_back = drop-append_seam (bytes_of (row_words b)) more

bands_back : (bs : List Band) → Words bs → bands_from (length bs) (table_of bs) ≡ bs
bands_back [] w = refl
bands_back (b ∷ bs) w =
    rw (band_back b (table_of bs) w.0, rest_back b (table_of bs) w.0) (ap (λ (l : List Band). b ∷ l) (bands_back bs w.1))

all_named : (bs : List Band) → Words bs → named (length bs) (table_of bs) ≡ true
all_named [] w = refl
all_named (b ∷ bs) w = rw (named_back b (table_of bs) w.0, rest_back b (table_of bs) w.0) (all_named bs w.1)

length_table : (bs : List Band) → length (table_of bs) ≡ 24 * length bs
length_table [] = refl
length_table (b ∷ bs) = length-append (bytes_of (row_words b)) (table_of bs) ∙ (let e = length_table bs in omega arith)

read_back : (bs : List Band) → Words bs → bands_in (table_of bs) ≡ bs
unfolding bands_in
read_back bs w =
    let e = length_table bs in
    let n : length (table_of bs) / 24 ≡ length bs = omega arith in
    rw (n, eq-eqb (length (table_of bs) % 24) 0 (omega arith), all_named bs w) (bands_back bs w)

-- the other way: an accepted table's bytes are those of its rows
shape_number_holds : (w : ℕ) → w ≤ 1 → shape_number (shape_of w) ≡ w
shape_number_holds zero h = refl
shape_number_holds (suc zero) h = refl
shape_number_holds (suc (suc w)) h = absurd (omega arith)

module _ (bytes : List ℕ) (m : ℕ) (long : length bytes / 4 ≡ suc (suc (suc (suc (suc (suc m)))))) where
  six_words : words_in bytes ≡ words_from (suc (suc (suc (suc (suc (suc m)))))) bytes
  unfolding words_in
  six_words = rw long

  past_six : drop 4 (drop 4 (drop 4 (drop 4 (drop 4 (drop 4 bytes))))) ≡ drop 24 bytes
  past_six = simp drop-drop

  row_and_rest : word_at bytes 5 ≤ 1 → row_words (band_in bytes) ++ words_from m (drop 24 bytes) ≡ words_from (suc (suc (suc (suc (suc (suc m)))))) bytes
  row_and_rest h = rw (shape_number_holds (word_at bytes 5) h, six_words, ← past_six)

written_from : (n : ℕ) (bytes : List ℕ) → length bytes ≡ 24 * n → T (named n bytes) → table_of (bands_from n bytes) ≡ bytes_of (words_from (6 * n) bytes)
written_from zero bytes e t = refl
written_from (suc n) bytes e t =
    let six : 6 * suc n ≡ suc (suc (suc (suc (suc (suc (6 * n)))))) = omega arith in
    let then = drop 24 bytes in
    let shape = leb→le (word_at bytes 5) 1 (and_l (leb (word_at bytes 5) 1) (named n then) t) in
    let more = written_from n then (length-drop 24 bytes ∙ (let f : length bytes - 24 ≡ 24 * n = omega arith in f)) (and_r (leb (word_at bytes 5) 1) (named n then) t) in
    ap (λ (l : List ℕ). bytes_of (row_words (band_in bytes)) ++ l) more
    ∙ sym (bytes_append (row_words (band_in bytes)) (words_from (6 * n) then))
    ∙ ap bytes_of (row_and_rest bytes (6 * n) (omega arith) shape)
    ∙ ap (λ (k : ℕ). bytes_of (words_from k bytes)) (sym six)

as_words : (n : ℕ) (bytes : List ℕ) → length bytes ≡ 24 * n → words_from (6 * n) bytes ≡ words_in bytes
unfolding words_in
as_words n bytes e = (let f : length bytes / 4 ≡ 6 * n = omega arith in rw f)

shown : (w : Bool) (bs : List Band) → accepted (cond w bs []) ≡ true → T w
unfolding accepted
shown true bs e = tt
shown false bs e = so e

all_shown : (bytes : List ℕ) → accepted (bands_in bytes) ≡ true → T (eqb (length bytes % 24) 0 && named (length bytes / 24) bytes)
unfolding bands_in
all_shown bytes = shown (eqb (length bytes % 24) 0 && named (length bytes / 24) bytes) (bands_from (length bytes / 24) bytes)

written_back : (bytes : List ℕ) → Below 256 bytes → accepted (bands_in bytes) ≡ true → table_of (bands_in bytes) ≡ bytes
written_back bytes below good =
    ap table_of (bands_are bytes good)
    ∙ written_from n bytes whole (and_r (eqb (length bytes % 24) 0) (named n bytes) both)
    ∙ ap bytes_of (as_words n bytes whole)
    ∙ whole_words (6 * n) bytes (omega (arith, whole)) below
  where
    n : ℕ
    n = length bytes / 24

    both : T (eqb (length bytes % 24) 0 && named (length bytes / 24) bytes)
    both = all_shown bytes good

    whole : length bytes ≡ 24 * n
    whole = (let e = eqb→eq (length bytes % 24) 0 (and_l (eqb (length bytes % 24) 0) (named (length bytes / 24) bytes) both) in omega arith)

-- ---- what fits
fitted : (t : Result I2cTiming TimingRefusal) (u : I2cTiming) → Fits t → t ≡ Ok u → round.Within u
fitted t u f e = subst Fits e f

pub band_promises : BandPromises
band_promises =
    record {
      accepts = accepts;
      only_so = only_so;
      bad_first = bad_first;
      bad_only = λ bs clock frequency. (told bs clock frequency).0;
      above_first = λ bs clock frequency a n m f. above_first bs clock frequency a n m (none_found frequency bs f);
      above_only = λ bs clock frequency e.
          (let (a, n, m, f) = (told bs clock frequency).1 e in (a, n, m, all_below frequency bs (subst IsAbove (sym f) tt)));
      five = λ clock frequency h. five_bands_holds clock frequency (omega arith);
      steps = λ bs i r a h. (let R = only_so bs a in four_steps (row_at bs i).shape r (row_at bs i).d (R.d_least i h) (R.d_most i h));
      fits = λ bs clock frequency t e. (let w = fitted _ t (bands_fit bs clock frequency) e in (w.presc, w.scldel, w.sdadel, w.sclh, w.scll));
      packs = λ bs clock frequency t e. round.packs t (fitted _ t (bands_fit bs clock frequency) e);
      read_back = read_back;
      written_back = written_back;
    }
