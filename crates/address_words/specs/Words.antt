-- What the four words of a configuration mean (document 01, "Bench"): own address, its mode, secondary address and mask, and
-- 0xFFFFFFFF for none of the last two. Assumes nothing.
use Rattle.std.specs.Prelude.{ℕ, Bool, cond, not, eqb, Option, Some, None}
use Rattle.calls.specs.declared.AddressMode.{AddressMode}
use Rattle.calls.specs.declared.AddressMode.TheVariants.{AddressMode7bit, AddressMode10bit}
use Rattle.calls.specs.declared.TargetConfig.{TargetConfig}

abbrev pub none : ℕ
none = 0xFFFFFFFF

abbrev pub secondary_in : ℕ → Option ℕ
secondary_in w = cond (eqb w none) None (Some w)

abbrev pub mask_in : ℕ → Option ℕ
mask_in w = cond (eqb w none) None (Some w)

abbrev pub mode_of : Bool → AddressMode
mode_of ten = cond ten AddressMode10bit AddressMode7bit

-- the mode is 0, or not 0 for ten bits
abbrev pub config_in : ℕ → ℕ → ℕ → ℕ → TargetConfig
config_in own ten secondary mask =
    record { own = own; secondary = secondary_in secondary; mask = mask_in mask; mode = mode_of (not (eqb ten 0)) }
