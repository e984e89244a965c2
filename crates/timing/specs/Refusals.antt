-- The numbers of the refusals of timing and packing, document 01's, and 16 and 17 of document 02, R-4; and how each is printed. Assumes nothing.
use Rattle.std.specs.Prelude.{ℕ, List, codes}
use Rattle.timing.specs.declared.TimingRefusal.{TimingRefusal}
use Rattle.timing.specs.declared.TimingRefusal.TheVariants.{NoSpeed, ClockOver, Ratio, ClockSlow, SpeedLow, NoSetup, FieldWide, BadBands, NoBand}

abbrev pub timing_refusal_number : TimingRefusal → ℕ
timing_refusal_number NoSpeed = 1
timing_refusal_number ClockOver = 2
timing_refusal_number Ratio = 3
timing_refusal_number ClockSlow = 4
timing_refusal_number SpeedLow = 5
timing_refusal_number NoSetup = 6
timing_refusal_number FieldWide = 7
timing_refusal_number BadBands = 16
timing_refusal_number NoBand = 17

abbrev pub timing_refusal_name : TimingRefusal → List ℕ
timing_refusal_name NoSpeed = codes "no speed"
timing_refusal_name ClockOver = codes "clock over"
timing_refusal_name Ratio = codes "ratio"
timing_refusal_name ClockSlow = codes "clock slow"
timing_refusal_name SpeedLow = codes "speed low"
timing_refusal_name NoSetup = codes "no setup"
timing_refusal_name FieldWide = codes "field wide"
timing_refusal_name BadBands = codes "bad bands"
timing_refusal_name NoBand = codes "no band"
