-- Worked timings of document 02's reading, as one computed table: by a table of an equal and a double row, at the borders of both, and by a
-- table that does not rise; and the two rows as bytes. Document 01's ten are in the crate `timing`. Assumes nothing.
use Prim.Native.Nat.{ℕ}
use mathlib.Core.Path.{◌≡◌, refl}
use mathlib.Core.List.{List, [], ◌∷◌, map}
use Rattle.fields.specs.Field.{put_of, with_bits}
use Rattle.words.specs.Words.{words_in, bytes_of}
use Rattle.timing.proofs.Cases.{Answer, answer_of}
use Rattle.timing.specs.Bands.{row}
use Rattle.timing.specs.declared.Band.{Band}
use Rattle.timing.specs.declared.Shape.TheVariants.{Equal, Double}
use Rattle.bands.specs.Bands.{accepted, settled, shaped_in, in_row, by_found, timing_by}
use Rattle.bands.specs.Table.{bands_in}

abbrev pub two : List Band
two = row 50000 1000000 32 1000000 250000 Equal ∷ row 200000 4000000 200 2000000 800000 Double ∷ []

abbrev pub level : List Band
level = row 50000 1000000 32 1000000 250000 Equal ∷ row 50000 1000000 32 1000000 250000 Equal ∷ []

pub record Case : Type 0 where
  pub table : List Band
  pub clock : ℕ
  pub frequency : ℕ
  pub answer : Answer

abbrev pub by : List Band → ℕ → ℕ → Answer → Case
by table clock frequency answer = record { table = table; clock = clock; frequency = frequency; answer = answer }

abbrev pub cases : List Case
cases =
    by two 8000000 50000 (Answer.word 0x40510F0F)
    ∷ by two 8000000 50001 (Answer.word 0x00943469)
    ∷ by two 250000000 100000 (Answer.word 0xC0F93F7F)
    ∷ by two 4111999 500 (Answer.word 0xF041FFFF)
    ∷ by two 4112000 500 (Answer.refused 5)
    ∷ by two 250000000 75000 (Answer.refused 5)
    ∷ by two 100 200001 (Answer.refused 17)
    ∷ by two 250000001 200001 (Answer.refused 2)
    ∷ by level 9 0 (Answer.refused 16)
    ∷ []

pub worked : map (λ (c : Case). answer_of (timing_by c.table c.clock c.frequency)) cases ≡ map (λ (c : Case). c.answer) cases
unfolding timing_by by_found accepted in_row shaped_in settled put_of with_bits
worked = refl

pub as_bytes : bands_in (bytes_of (50000 ∷ 1000000 ∷ 32 ∷ 1000000 ∷ 250000 ∷ 0 ∷ 200000 ∷ 4000000 ∷ 200 ∷ 2000000 ∷ 800000 ∷ 1 ∷ [])) ≡ two
unfolding bands_in words_in
as_bytes = refl
