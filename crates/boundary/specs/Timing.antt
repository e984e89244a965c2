-- What the C boundary gives for the timing's answers. Assumes nothing.
use Rattle.std.specs.Prelude.{ℕ, List, [], ◌∷◌, get_or, Result, Ok, Err}
use Rattle.timing.specs.Refusals.{timing_refusal_number}
use Rattle.timing.specs.Timingr.{timingr_word, pack_of}
use Rattle.timing.specs.declared.I2cTiming.{I2cTiming}
use Rattle.timing.specs.declared.RawTimingr.{RawTimingr}
use Rattle.timing.specs.declared.TimingRefusal.{TimingRefusal}

-- A TIMINGR word and refusal 0, or word 0 and the number of the refusal.
pub record TimingAnswer : Type 0 where
  pub refusal : ℕ
  pub timingr : ℕ

abbrev pub answer : ℕ → ℕ → TimingAnswer
answer refusal timingr = record { refusal = refusal; timingr = timingr }

abbrev pub packed_answer : Result RawTimingr TimingRefusal → TimingAnswer
packed_answer (Ok r) = answer 0 r.0
packed_answer (Err why) = answer (timing_refusal_number why) 0

abbrev pub timed_answer : Result I2cTiming TimingRefusal → TimingAnswer
timed_answer (Ok t) = answer 0 (timingr_word t)
timed_answer (Err why) = answer (timing_refusal_number why) 0

-- 0 for a table that is accepted.
abbrev pub loaded_answer : Result (Unit {0}) TimingRefusal → ℕ
loaded_answer (Ok tt) = 0
loaded_answer (Err why) = timing_refusal_number why

-- What the code does with a timing: it packs it. That this is never refused is `bands_fit` of the crate `bands`.
abbrev pub packed_timed : Result I2cTiming TimingRefusal → TimingAnswer
packed_timed (Ok t) = packed_answer (pack_of t)
packed_timed (Err why) = answer (timing_refusal_number why) 0

-- The five fields stand in this order.
abbrev pub timing_in : List ℕ → I2cTiming
timing_in fields =
    record {
      presc = get_or fields 0 0;
      scldel = get_or fields 1 0;
      sdadel = get_or fields 2 0;
      sclh = get_or fields 3 0;
      scll = get_or fields 4 0;
    }

abbrev pub fields_of : I2cTiming → List ℕ
fields_of t = t.presc ∷ t.scldel ∷ t.sdadel ∷ t.sclh ∷ t.scll ∷ []
