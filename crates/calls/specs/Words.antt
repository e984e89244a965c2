-- The words that a call writes into control registers (document 01, "Transaction" and "Leaves"; RM0492 for the fields).
-- Assumes nothing.
use Rattle.std.specs.Prelude.{ℕ, ◌*◌, Bool, true, false, cond, eqb, Option, Some, None}
use Rattle.fields.specs.Field.{put_of, mark_of}
use Rattle.registers.specs.Addresses.{seven_bit_own, ten_bit_own, secondary, masked}
use Rattle.registers.specs.Map.{reset_of}
use Rattle.registers.specs.Places.{CR1_PE, CR1_ANFOFF, CR1_GCEN, CR1_SBC, CR2_SADD, CR2_RD_WRN, CR2_ADD10, CR2_HEAD10R, CR2_START, CR2_NACK, CR2_NBYTES, CR2_RELOAD, CR2_AUTOEND, OAR1_OA1EN, OAR2_OA2EN}
use Rattle.registers.specs.declared.Register.{Register}
use Rattle.registers.specs.declared.Register.TheVariants.{Cr1, Cr2, Oar1, Oar2}
use Rattle.timing.specs.Timingr.{timingr_word, unpack_of}
use Rattle.timing.specs.declared.I2cTiming.{I2cTiming}
use Rattle.calls.specs.Calls.{is_call}
use Rattle.calls.specs.declared.AddressMode.{AddressMode}
use Rattle.calls.specs.declared.AddressMode.TheVariants.{AddressMode7bit, AddressMode10bit}
use Rattle.calls.specs.declared.Call.{Call}
use Rattle.calls.specs.declared.Description.{Description}
use Rattle.calls.specs.declared.Modify.{Modify}
use Rattle.calls.specs.declared.Modify.TheVariants.{PeOff, PeOn, Listen, NackSet, ReloadOff, SbcOff, ReloadClear, SbcOn, ReloadOn, NbytesSet}
use Rattle.calls.specs.declared.View.{View}
use Rattle.calls.specs.declared.Call.TheVariants.{TargetNew, EnableTargetEvent}
use Rattle.calls.specs.declared.TargetConfig.{TargetConfig}

-- CR2, once per operation: its length and direction, and how it ends: the last by AUTOEND, one before another of its
-- direction by RELOAD, else by a repeated start, which takes neither.
abbrev pub transfer : View → ℕ
transfer v =
    let w = mark_of (put_of 0 CR2_NBYTES v.size) CR2_RD_WRN v.reads in
    cond v.last (mark_of w CR2_AUTOEND true) (cond v.same (mark_of w CR2_RELOAD true) w)

-- The address: of seven bits shifted left by one; of ten bits with ADD10, and with HEAD10R where the start is repeated.
abbrev pub addressed : AddressMode → ℕ → Bool → ℕ → ℕ
addressed AddressMode7bit address again w = put_of w CR2_SADD (address * 2)
addressed AddressMode10bit address again w =
    mark_of (mark_of (put_of w CR2_SADD address) CR2_ADD10 true) CR2_HEAD10R again

-- `start` for the first operation, `reload` after one that ended by RELOAD, else `repeat_start`. START, SADD and ADD10 are
-- absent from `reload`.
unfoldable pub cr2_of : Description → View → Bool → ℕ
cr2_of d v again =
    cond v.reload (transfer v) (addressed d.mode d.address again (mark_of (transfer v) CR2_START true))

-- TIMINGR of call 1 has all fields, that of call 2 neither SCLL nor SCLH; bits 24 to 27 are ignored.
abbrev pub target_timing : I2cTiming → I2cTiming
target_timing t = record { presc = t.presc; scldel = t.scldel; sdadel = t.sdadel; sclh = 0; scll = 0 }

unfoldable pub timingr_of : Call → Description → ℕ
timingr_of c d = let t = unpack_of d.timing in cond (is_call c TargetNew) (timingr_word (target_timing t)) (timingr_word t)

-- OAR1 and OAR2 of a configuration. Without one neither is written, and OAR2 not without a secondary address: there the
-- reset values stand.
abbrev pub own_word : AddressMode → ℕ → ℕ
own_word AddressMode7bit own = seven_bit_own own
own_word AddressMode10bit own = ten_bit_own own

abbrev pub secondary_word : Option ℕ → Option ℕ → ℕ
secondary_word None m = reset_of Oar2
secondary_word (Some address) None = secondary address
secondary_word (Some address) (Some bits) = masked address bits

unfoldable pub oar1_of : Option TargetConfig → ℕ
oar1_of None = reset_of Oar1
oar1_of (Some t) = own_word t.mode t.own

unfoldable pub oar2_of : Option TargetConfig → ℕ
oar2_of None = reset_of Oar2
oar2_of (Some t) = secondary_word t.secondary t.mask

-- The register of a modify. Listening is enabled in CR1 for the general call, in OAR1 for the primary address, in OAR2 for
-- the secondary one.
abbrev pub listen_register : ℕ → Register
listen_register kind = cond (eqb kind 0) Cr1 (cond (eqb kind 1) Oar1 Oar2)

abbrev pub register_of : Description → Modify → Register
register_of d PeOff = Cr1
register_of d PeOn = Cr1
register_of d Listen = listen_register d.listen
register_of d NackSet = Cr2
register_of d ReloadOff = Cr2
register_of d SbcOff = Cr1
register_of d ReloadClear = Cr2
register_of d SbcOn = Cr1
register_of d ReloadOn = Cr2
register_of d NbytesSet = Cr2

-- PE on; call 2 also turns the analog filter on
abbrev pub enabled_word : Call → ℕ → ℕ
enabled_word c w = mark_of (cond (is_call c TargetNew) (mark_of w CR1_ANFOFF false) w) CR1_PE true

-- call 4 enables, call 5 disables
abbrev pub listen_word : Call → ℕ → ℕ → ℕ
listen_word c kind w =
    cond (eqb kind 0) (mark_of w CR1_GCEN (is_call c EnableTargetEvent))
    (cond (eqb kind 1) (mark_of w OAR1_OA1EN (is_call c EnableTargetEvent)) (mark_of w OAR2_OA2EN (is_call c EnableTargetEvent)))

-- what a modify writes, of the word w that it read
unfoldable pub alter_of : Call → Description → View → ℕ → Modify → ℕ
alter_of c d v w PeOff = mark_of w CR1_PE false
alter_of c d v w PeOn = enabled_word c w
alter_of c d v w Listen = listen_word c d.listen w
alter_of c d v w NackSet = mark_of w CR2_NACK true
alter_of c d v w ReloadOff = mark_of w CR2_RELOAD false
alter_of c d v w SbcOff = mark_of w CR1_SBC false
alter_of c d v w ReloadClear = put_of (mark_of w CR2_RELOAD false) CR2_NBYTES 0
alter_of c d v w SbcOn = mark_of w CR1_SBC true
alter_of c d v w ReloadOn = mark_of w CR2_RELOAD true
alter_of c d v w NbytesSet = put_of w CR2_NBYTES v.size
