-- The listed calls with document 01's numbers, what each has to do with bytes and events, and what is asked of one.
-- Assumes nothing.
use Rattle.std.specs.Prelude.{ℕ, ◌+◌, Bool, true, false, ◌&&◌, ◌||◌, List, eqb, leb, Option, Some, None}
use Rattle.calls.specs.declared.Ack.{Ack}
use Rattle.calls.specs.declared.Ack.TheVariants.{AutoAck, ManualAck}
use Rattle.calls.specs.declared.Call.{Call}
use Rattle.calls.specs.declared.Call.TheVariants.{New, TargetNew, ConfigureTargetAddresses, EnableTargetEvent, DisableTargetEvent, Reset, Transaction, WaitForEvent, Read, Write, WaitForTargetRead, WaitForTargetWrite, WaitForStop, AckTransfer, NackTransfer}
use Rattle.calls.specs.declared.AddressMode.{AddressMode}
use Rattle.calls.specs.declared.AddressMode.TheVariants.{AddressMode7bit}
use Rattle.calls.specs.declared.TargetConfig.{TargetConfig}
use Rattle.calls.specs.declared.Description.{Description}

-- 8 to 13 mean AutoAck; adding 16 means ManualAck
abbrev pub by_ack : ℕ → Ack → ℕ
by_ack n AutoAck = n
by_ack n ManualAck = n + 16

abbrev pub call_number : Call → ℕ
call_number New = 1
call_number TargetNew = 2
call_number ConfigureTargetAddresses = 3
call_number EnableTargetEvent = 4
call_number DisableTargetEvent = 5
call_number Reset = 6
call_number Transaction = 7
call_number (WaitForEvent a) = by_ack 8 a
call_number (Read a) = by_ack 9 a
call_number (Write a) = by_ack 10 a
call_number (WaitForTargetRead a) = by_ack 11 a
call_number (WaitForTargetWrite a) = by_ack 12 a
call_number (WaitForStop a) = by_ack 13 a
call_number AckTransfer = 14
call_number NackTransfer = 15

-- The target's configuration, and what its setters change.
abbrev pub config_of : ℕ → TargetConfig
config_of own = record { own = own; secondary = None; mask = None; mode = AddressMode7bit }

abbrev pub with_own : ℕ → TargetConfig → TargetConfig
with_own own t = record { own = own; secondary = t.secondary; mask = t.mask; mode = t.mode }

abbrev pub with_mode : AddressMode → TargetConfig → TargetConfig
with_mode mode t = record { own = t.own; secondary = t.secondary; mask = t.mask; mode = mode }

abbrev pub with_secondary : ℕ → TargetConfig → TargetConfig
with_secondary address t = record { own = t.own; secondary = Some address; mask = t.mask; mode = t.mode }

abbrev pub with_mask : ℕ → TargetConfig → TargetConfig
with_mask bits t = record { own = t.own; secondary = t.secondary; mask = Some bits; mode = t.mode }

-- it is that call
unfoldable pub is_call : Call → Call → Bool
is_call c x = eqb (call_number c) (call_number x)

-- it is of that kind, in either acknowledge mode
unfoldable pub is_kind : Call → (Ack → Call) → Bool
is_kind c kind = is_call c (kind AutoAck) || is_call c (kind ManualAck)

abbrev pub transaction : Call → Bool
transaction c = is_call c Transaction

unfoldable pub manual : Call → Bool
manual c = leb 16 (call_number c)

-- the target calls that fill the buffer, those that put it out, and those that await an event first
abbrev pub receives : Call → Bool
receives c = is_kind c Read || is_kind c WaitForTargetRead

abbrev pub transmits : Call → Bool
transmits c = is_kind c Write || is_kind c WaitForTargetWrite

-- 26 and 28, which count what they put out (document 02, R-6)
abbrev pub manual_write : Call → Bool
manual_write c = manual c && transmits c

abbrev pub eventful : Call → Bool
eventful c = is_kind c WaitForEvent || (is_kind c WaitForTargetRead || (is_kind c WaitForTargetWrite || is_kind c WaitForStop))

-- what a description may have or lack: a configuration, and in it a secondary address
abbrev pub is_configured : Option TargetConfig → Bool
is_configured None = false
is_configured (Some t) = true

abbrev pub is_secondary : Option ℕ → Bool
is_secondary None = false
is_secondary (Some address) = true

abbrev pub has_secondary : Option TargetConfig → Bool
has_secondary None = false
has_secondary (Some t) = is_secondary t.secondary

-- A listed call with all that describes it: the words, the operation list, and the lent buffer's length.
pub record Request : Type 0 where
  pub call : Call
  pub words : Description
  pub operations : List ℕ
  pub size : ℕ
