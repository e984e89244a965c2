-- What is promised of an event's address (document 01, "Target side", and document 02, R-5): it is the one that stands in the log. Assumes nothing.
use Rattle.std.specs.Prelude.{ℕ, ◌≡◌, Bool, true, cond, List, [], ◌∷◌, ◌++◌, T, eqb, length}
use Rattle.fields.specs.Field.{get_of, flag_of}
use Rattle.registers.specs.Map.{offset_of}
use Rattle.registers.specs.Places.{OAR1_OA1MODE, OAR1_OA1, ISR_ADDR, ISR_DIR, ISR_ADDCODE}
use Rattle.registers.specs.declared.Register.{Register}
use Rattle.registers.specs.declared.Register.TheVariants.{Oar1, Isr}
use Rattle.calls.specs.Bytes.{EndedAs}
use Rattle.calls.specs.Calls.{Request, is_kind}
use Rattle.calls.specs.Run.{Entry, Uncut}
use Rattle.calls.specs.Steps.{ten_bit_header}
use Rattle.calls.specs.declared.Call.TheVariants.{WaitForEvent}
use Rattle.calls.specs.declared.Outcome.{Outcome}
use Rattle.calls.specs.declared.Outcome.TheVariants.{EventRead, EventWrite}

-- the words that a log's reads of a register gave, in order
abbrev pub read_of : Register → Entry → List ℕ
read_of r e = cond (eqb e.code (offset_of r)) (e.value ∷ []) []

abbrev pub reads_of : Register → List Entry → List ℕ
reads_of r [] = []
reads_of r (e ∷ es) = read_of r e ++ reads_of r es

-- the last of some words, or w where there is none
abbrev pub last_of : ℕ → List ℕ → ℕ
last_of w [] = w
last_of w (v ∷ vs) = last_of v vs

-- an event's status word is the last that was read of ISR: the polls before it found nothing
abbrev pub status_in : List Entry → ℕ
status_in log = last_of 0 (reads_of Isr log)

-- The address by that status word and by what was read of OAR1: OA1 if there is such a word and its OA1MODE is 1, else ADDCODE.
abbrev pub address_by : ℕ → List ℕ → ℕ
address_by status [] = get_of status ISR_ADDCODE
address_by status (own ∷ owns) = cond (flag_of own OAR1_OA1MODE) (get_of own OAR1_OA1) (get_of status ISR_ADDCODE)

-- an event at the address n: the controller reads, or it writes
abbrev pub event_by : Bool → ℕ → Outcome
event_by reads n = cond reads (EventRead n) (EventWrite n)

-- what the log of such an event says
pub record EventAt (q : Request) (log : List Entry) (reads : Bool) (n : ℕ) : Type 0 where
  -- only 8 and 24 say an address
  pub asked : T (is_kind q.call WaitForEvent)
  -- the target was addressed, and DIR is 1 if the controller reads
  pub matched : flag_of (status_in log) ISR_ADDR ≡ true
  pub direction : flag_of (status_in log) ISR_DIR ≡ reads
  -- OAR1 was read, once, exactly if ADDCODE under the mask 0x7C is 0x78, whatever its mode
  pub own : length (reads_of Oar1 log) ≡ cond (ten_bit_header (get_of (status_in log) ISR_ADDCODE)) 1 0
  pub address : n ≡ address_by (status_in log) (reads_of Oar1 log)

-- so it is of every run that ended as an event
abbrev pub Events : Request → Uncut → Type 0
Events q U = (reads : Bool) (n : ℕ) → EndedAs (event_by reads n) U → EventAt q U.log reads n
