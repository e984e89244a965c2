-- Configurations that a chain of setters builds, and the words of OAR1 and OAR2 that they end in, as one computed table:
-- document 01's proved cases (own address 0x42, secondary address 0x21 with mask 2), each setter by itself, and a chain in
-- another order. Assumes nothing.
use Rattle.std.specs.Prelude.{Some}
use Prim.Native.Nat.{ℕ}
use mathlib.Core.Path.{◌≡◌, refl}
use mathlib.Core.List.{List, [], ◌∷◌, map}
use Rattle.fields.specs.Field.{with_bits, put_of}
use Rattle.calls.specs.Calls.{config_of, with_own, with_mode, with_secondary, with_mask}
use Rattle.calls.specs.Words.{oar1_of, oar2_of}
use Rattle.calls.specs.declared.AddressMode.TheVariants.{AddressMode7bit, AddressMode10bit}
use Rattle.calls.specs.declared.TargetConfig.{TargetConfig}

record Words : Type 0 where
  oar1 : ℕ
  oar2 : ℕ

record Row : Type 0 where
  config : TargetConfig
  words : Words

abbrev words_of : TargetConfig → Words
words_of t = record { oar1 = oar1_of (Some t); oar2 = oar2_of (Some t) }

abbrev row : TargetConfig → ℕ → ℕ → Row
row t oar1 oar2 = record { config = t; words = record { oar1 = oar1; oar2 = oar2 } }

abbrev table : List Row
table =
    row (with_mask 2 (with_secondary 0x21 (with_mode AddressMode7bit (with_own 0x42 (config_of 0))))) 0x84 0x342
    ∷ row (config_of 0x42) 0x84 0
    ∷ row (with_own 0x42 (config_of 0x10)) 0x84 0
    ∷ row (with_mode AddressMode10bit (config_of 0x242)) 0x642 0
    ∷ row (with_mode AddressMode7bit (with_mode AddressMode10bit (config_of 0x42))) 0x84 0
    ∷ row (with_secondary 0x21 (config_of 0x42)) 0x84 0x42
    ∷ row (with_mask 2 (config_of 0x42)) 0x84 0
    ∷ row (with_own 0x42 (with_secondary 0x21 (with_mask 2 (with_secondary 0x7F (config_of 0x10))))) 0x84 0x342
    ∷ []

configured_cases : map (λ (r : Row). words_of r.config) table ≡ map (λ (r : Row). r.words) table
unfolding oar1_of oar2_of put_of with_bits
configured_cases = refl
