-- The outcomes and refusals with document 01's numbers and values. Assumes nothing.
use Rattle.std.specs.Prelude.{ℕ, ◌+◌, Bool, true, false, cond}
use Rattle.registers.specs.Map.{offset_of}
use Rattle.calls.specs.declared.Outcome.{Outcome}
use Rattle.calls.specs.declared.Outcome.TheVariants.{Done, Bus, Arbitration, Nack, Stopped, ExpectedWrite, ExpectedRead, EventRead, EventWrite, EventStop}
use Rattle.calls.specs.declared.Refusal.{Refusal}
use Rattle.calls.specs.declared.Refusal.TheVariants.{Address, List, Buffer, NoSuchCall, SavedCall}
use Rattle.calls.specs.declared.Report.{Report}
use Rattle.calls.specs.declared.Report.TheVariants.{Over, Full, Waiting, Refused}

abbrev pub refusal_number : Refusal → ℕ
refusal_number Address = 8
refusal_number List = 10
refusal_number Buffer = 11
refusal_number NoSuchCall = 12
refusal_number SavedCall = 13

-- an outcome's number is the place of its word in document 01's list of outcome words
abbrev pub outcome_number : Outcome → ℕ
outcome_number (Done n) = 0
outcome_number Bus = 1
outcome_number Arbitration = 2
outcome_number Nack = 3
outcome_number Stopped = 4
outcome_number ExpectedWrite = 5
outcome_number ExpectedRead = 6
outcome_number (EventRead n) = 7
outcome_number (EventWrite n) = 8
outcome_number EventStop = 9

-- and its value the count of bytes or the address
abbrev pub outcome_value : Outcome → ℕ
outcome_value (Done n) = n
outcome_value Bus = 0
outcome_value Arbitration = 0
outcome_value Nack = 0
outcome_value Stopped = 0
outcome_value ExpectedWrite = 0
outcome_value ExpectedRead = 0
outcome_value (EventRead n) = n
outcome_value (EventWrite n) = n
outcome_value EventStop = 0

-- what an advance reports: `waiting` and `refused` follow in that list; `full` is no outcome word, and comes last
abbrev pub waiting_number : ℕ
waiting_number = 10

abbrev pub refused_number : ℕ
refused_number = waiting_number + 1

abbrev pub full_number : ℕ
full_number = refused_number + 1

abbrev pub report_number : Report → ℕ
report_number (Over o) = outcome_number o
report_number (Waiting r) = waiting_number
report_number (Refused r) = refused_number
report_number Full = full_number

abbrev pub report_value : Report → ℕ
report_value (Over o) = outcome_value o
report_value (Waiting r) = 0
report_value (Refused r) = refusal_number r
report_value Full = 0

-- and for `waiting` the offset of the register whose word is awaited
abbrev pub awaited_of : Report → ℕ
awaited_of (Over o) = 0
awaited_of (Waiting r) = offset_of r
awaited_of (Refused r) = 0
awaited_of Full = 0

abbrev pub is_done : Outcome → Bool
is_done (Done n) = true
is_done Bus = false
is_done Arbitration = false
is_done Nack = false
is_done Stopped = false
is_done ExpectedWrite = false
is_done ExpectedRead = false
is_done (EventRead n) = false
is_done (EventWrite n) = false
is_done EventStop = false

abbrev pub is_event_read : Outcome → Bool
is_event_read (Done n) = false
is_event_read Bus = false
is_event_read Arbitration = false
is_event_read Nack = false
is_event_read Stopped = false
is_event_read ExpectedWrite = false
is_event_read ExpectedRead = false
is_event_read (EventRead n) = true
is_event_read (EventWrite n) = false
is_event_read EventStop = false

-- the event on its way, with another address
abbrev pub readdressed : Outcome → ℕ → Outcome
readdressed o n = cond (is_event_read o) (EventRead n) (EventWrite n)
