-- Document 01's "Proved cases": ten timings, and the OAR1 and OAR2 words of two addresses, as one computed table.
-- Assumes nothing.
use Rattle.std.specs.Prelude.{Result, Ok, Err}
use mathlib.Core.Path.{◌≡◌, refl}
use mathlib.Core.List.{List, [], ◌∷◌, map}
use Prim.Native.Nat.{ℕ}
use Rattle.fields.specs.Field.{put_of, with_bits}
use Rattle.registers.specs.Addresses.{seven_bit_own, masked}
use Rattle.timing.specs.Bands.{timing_of, band_of, in_band_of, equal_at, double_at}
use Rattle.timing.specs.Refusals.{timing_refusal_number}
use Rattle.timing.specs.Timingr.{timingr_word}
use Rattle.timing.specs.declared.I2cTiming.{I2cTiming}
use Rattle.timing.specs.declared.TimingRefusal.{TimingRefusal}

pub data Answer : Type 0 where
  word : ℕ → Answer
  refused : ℕ → Answer

abbrev pub answer_of : Result I2cTiming TimingRefusal → Answer
answer_of (Ok t) = word (timingr_word t)
answer_of (Err why) = refused (timing_refusal_number why)

-- what is asked: a timing of clock and frequency, OAR1 of an own address, OAR2 of a secondary one and its mask
pub data Question : Type 0 where
  timing : ℕ → ℕ → Question
  oar1 : ℕ → Question
  oar2 : ℕ → ℕ → Question

abbrev pub ask : Question → Answer
ask (timing clock frequency) = answer_of (timing_of clock frequency)
ask (oar1 own) = word (seven_bit_own own)
ask (oar2 address m) = word (masked address m)

pub record Case : Type 0 where
  pub question : Question
  pub answer : Answer

infix 10 ◌gives◌
abbrev pub ◌gives◌ : Question → Answer → Case
q gives a = record { question = q; answer = a }

abbrev pub cases : List Case
cases =
    (timing 250000000 400000 gives word 0x60FB1C39)
    ∷ (timing 250000000 100000 gives word 0xF0F74D4D)
    ∷ (timing 8000000 400000 gives word 0x0072050B)
    ∷ (timing 2000000 100000 gives word 0x00410909)
    ∷ (timing 153601536 100001 gives word 0xF0831F3F)
    ∷ (timing 153701537 100001 gives refused 5)
    ∷ (timing 65784000 8000 gives word 0xF072FFFF)
    ∷ (timing 65792000 8000 gives refused 5)
    ∷ (timing 2000000 1953 gives word 0x30417F7F)
    ∷ (timing 2000000 1951 gives refused 6)
    ∷ (oar1 0x42 gives word 0x84)
    ∷ (oar2 0x21 2 gives word 0x342)
    ∷ []

pub proved_cases : map (λ (c : Case). ask c.question) cases ≡ map (λ (c : Case). c.answer) cases
unfolding timing_of band_of in_band_of equal_at double_at put_of with_bits
proved_cases = refl
