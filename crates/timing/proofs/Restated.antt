-- What `pack`, `unpack` and `TimingRefusal::number` give a caller, once more and in plain arithmetic: TIMINGR's word as a sum and its
-- fields as quotients. A contract that loses a fact, and its proof with it, fails here.
-- Assumes nothing.
use Rattle.std.specs.Prelude.{Ok, Err}
use Prim.Native.Nat.{ℕ, ◌+◌, ◌*◌, ◌/◌, ◌%◌, ◌^◌, ◌<◌, max}
use native.Mathlib.Omega.{arith}
use mathlib.Core.Path.{◌≡◌, refl, ap, ◌∙◌}
use mathlib.Core.Bool.{Bool, true, false, ◌&&◌}
use lib.Dec.{T, leb, leb→le}
use borrow.Fn.Kinds
use borrow.Fn.World
use contract.Lifetimes.{Lfts}
use denote.Triple.Clauses
use Rattle.fields.proofs.Laws.{and_l, and_r}
use Rattle.fields.specs.Field.{get_of, bits_at}
use Rattle.timing.specs.Refusals.{timing_refusal_number}
use Rattle.timing.specs.Timingr.{pack_of, unpack_of}
use Rattle.timing.specs.declared.TimingRefusal.{TimingRefusal}
use Rattle.timing.specs.declared.TimingRefusal.TheVariants.{NoSpeed, ClockOver, Ratio, ClockSlow, SpeedLow, NoSetup, FieldWide, BadBands, NoBand}
use Rattle.timing.proofs.Round.{Within, packs, sum}
use Rattle.timing.specs.contracts.I2cTiming.pack as pack
use Rattle.timing.proofs.I2cTiming.pack.Kinds as pack-kinds
use Rattle.timing.proofs.I2cTiming.pack.Reads as pack-reads
use Rattle.timing.specs.contracts.RawTimingr.unpack as unpack
use Rattle.timing.proofs.RawTimingr.unpack.Kinds as unpack-kinds
use Rattle.timing.proofs.RawTimingr.unpack.Reads as unpack-reads
use Rattle.timing.specs.contracts.TimingRefusal.number as number
use Rattle.timing.proofs.TimingRefusal.number.Kinds as number-kinds
use Rattle.timing.proofs.TimingRefusal.number.Reads as number-reads

-- ---- No function asks anything of its caller.

pack_asks_nothing : (κs : Lfts 0) (a : borrow.Fn.World.ArgsD pack.signature κs) → pack-reads.Asked κs a
pack_asks_nothing κs a = tt

unpack_asks_nothing : (κs : Lfts 0) (a : borrow.Fn.World.ArgsD unpack.signature κs) → unpack-reads.Asked κs a
unpack_asks_nothing κs a = tt

number_asks_nothing : (κs : Lfts 0) (a : borrow.Fn.World.ArgsD number.signature κs) → number-reads.Asked κs a
number_asks_nothing κs a = tt

-- ---- Packing

not_so : (t : Bool) → (T t → ⊥) → t ≡ false
not_so true h = absurd (h tt)
not_so false h = refl

wide : (x y z : ℕ) → 15 < max x (max y z) → (leb x 15 && (leb y 15 && leb z 15)) ≡ false
wide x y z h = not_so (leb x 15 && (leb y 15 && leb z 15)) (λ t.
    let u : T (leb y 15 && leb z 15) = and_r (leb x 15) _ t in
    omega (arith, leb→le x 15 (and_l (leb x 15) _ t), leb→le y 15 (and_l (leb y 15) _ u), leb→le z 15 (and_r (leb y 15) _ u)))

module _ (κs : Lfts 0) (a : borrow.Fn.World.ArgsD pack.signature κs) (p : borrow.Fn.World.ResD pack.signature κs)
    (x : denote.Triple.Clauses.AtExit (borrow.Fn.Kinds.ended_of 0 pack-kinds.ps pack-kinds.r) κs) (contract : pack-reads.Post κs a p x) where
  pub packed_word : Within a.0 →
      p ≡ Ok (record { 0 = a.0.presc * 2 ^ 28 + (a.0.scldel * 2 ^ 20 + (a.0.sdadel * 2 ^ 16 + (a.0.sclh * 2 ^ 8 + a.0.scll))) })
  packed_word w = contract ∙ packs a.0 w ∙ ap (λ (n : ℕ). Ok (record { 0 = n })) (sum a.0 w)

  pub refused_7 : 15 < max a.0.presc (max a.0.scldel a.0.sdadel) → p ≡ Err FieldWide
  unfolding pack_of
  refused_7 h = contract ∙ rw (wide a.0.presc a.0.scldel a.0.sdadel h)

-- ---- Unpacking

module _ (κs : Lfts 0) (a : borrow.Fn.World.ArgsD unpack.signature κs) (t : borrow.Fn.World.ResD unpack.signature κs)
    (x : denote.Triple.Clauses.AtExit (borrow.Fn.Kinds.ended_of 0 unpack-kinds.ps unpack-kinds.r) κs) (contract : unpack-reads.Post κs a t x) where
  pub unpacked : t ≡ record {
    presc = a.0.0 / 2 ^ 28 % 16;
    scldel = a.0.0 / 2 ^ 20 % 16;
    sdadel = a.0.0 / 2 ^ 16 % 16;
    sclh = a.0.0 / 2 ^ 8 % 256;
    scll = a.0.0 / 2 ^ 0 % 256;
  }
  unfolding unpack_of get_of bits_at
  unpacked = contract

-- ---- Numbers

module _ (κs : Lfts 0) (a : borrow.Fn.World.ArgsD number.signature κs) (n : borrow.Fn.World.ResD number.signature κs)
    (x : denote.Triple.Clauses.AtExit (borrow.Fn.Kinds.ended_of 0 number-kinds.ps number-kinds.r) κs) (contract : number-reads.Post κs a n x) where
  is : (r : TimingRefusal) → a.0 ≡ r → n ≡ timing_refusal_number r
  is r e = contract ∙ ap timing_refusal_number e

  pub numbers :
      (a.0 ≡ NoSpeed → n ≡ 1) × (a.0 ≡ ClockOver → n ≡ 2) × (a.0 ≡ Ratio → n ≡ 3) × (a.0 ≡ ClockSlow → n ≡ 4)
      × (a.0 ≡ SpeedLow → n ≡ 5) × (a.0 ≡ NoSetup → n ≡ 6) × (a.0 ≡ FieldWide → n ≡ 7) × (a.0 ≡ BadBands → n ≡ 16) × (a.0 ≡ NoBand → n ≡ 17)
  numbers = (is NoSpeed, is ClockOver, is Ratio, is ClockSlow, is SpeedLow, is NoSetup, is FieldWide, is BadBands, is NoBand)
