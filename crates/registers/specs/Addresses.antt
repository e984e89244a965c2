-- The words that give a target its addresses (RM0492, OAR1 and OAR2; document 01, "Leaves"). Assumes nothing.
use Rattle.std.specs.Prelude.{ℕ, ◌+◌, ◌*◌, true}
use Rattle.fields.specs.Field.{put_of, mark_of}
use Rattle.registers.specs.Places.{OAR1_OA1, OAR1_OA1MODE, OAR2_OA2, OAR2_OA2MSK}

-- OAR1 for an own address of seven bits, which stands shifted left by one, and of ten, which does not.
abbrev pub seven_bit_own : ℕ → ℕ
seven_bit_own own = put_of 0 OAR1_OA1 (own * 2)

abbrev pub ten_bit_own : ℕ → ℕ
ten_bit_own own = mark_of (put_of 0 OAR1_OA1 own) OAR1_OA1MODE true

-- OAR2 for a secondary address, which has seven bits and its place at bit 1; and with m address bits left out of the
-- comparison, written as m + 1.
abbrev pub secondary : ℕ → ℕ
secondary address = put_of 0 OAR2_OA2 address

abbrev pub masked : ℕ → ℕ → ℕ
masked address m = put_of (secondary address) OAR2_OA2MSK (m + 1)
