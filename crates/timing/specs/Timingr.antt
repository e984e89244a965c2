-- A timing packed into a TIMINGR word and a word taken apart (RM0492, TIMINGR; document 01, refusal 7). Assumes nothing.
use Rattle.std.specs.Prelude.{ℕ, cond, ◌&&◌, leb, Result, Ok, Err}
use Rattle.fields.specs.Field.{Place, place, get_of, put_of}
use Rattle.registers.specs.Places.{TIMINGR_PRESC, TIMINGR_SCLDEL, TIMINGR_SDADEL, TIMINGR_SCLH, TIMINGR_SCLL}
use Rattle.timing.specs.declared.I2cTiming.{I2cTiming}
use Rattle.timing.specs.declared.RawTimingr.{RawTimingr}
use Rattle.timing.specs.declared.TimingRefusal.TheVariants.{FieldWide}
use Rattle.timing.specs.declared.TimingRefusal.{TimingRefusal}

-- The word of a timing: each number in its field.
abbrev pub timingr_word : I2cTiming → ℕ
timingr_word t =
    put_of
    (put_of
    (put_of
    (put_of
    (put_of 0 TIMINGR_SCLL t.scll)
    TIMINGR_SCLH t.sclh)
    TIMINGR_SDADEL t.sdadel)
    TIMINGR_SCLDEL t.scldel)
    TIMINGR_PRESC t.presc

abbrev pub raw_of : I2cTiming → RawTimingr
raw_of t = record { 0 = timingr_word t }

-- Refused where a field of four bits does not hold its number; SCLH and SCLL hold every byte.
unfoldable pub pack_of : I2cTiming → Result RawTimingr TimingRefusal
pack_of t =
    cond (leb t.presc 15 && (leb t.scldel 15 && leb t.sdadel 15))
    (Ok (raw_of t))
    (Err FieldWide)

-- Bits 24 to 27 belong to no field: unpacking leaves them out.
abbrev pub reserved : Place
reserved = place 24 4

unfoldable pub unpack_of : RawTimingr → I2cTiming
unpack_of r =
    record {
      presc = get_of r.0 TIMINGR_PRESC;
      scldel = get_of r.0 TIMINGR_SCLDEL;
      sdadel = get_of r.0 TIMINGR_SDADEL;
      sclh = get_of r.0 TIMINGR_SCLH;
      scll = get_of r.0 TIMINGR_SCLL;
    }
