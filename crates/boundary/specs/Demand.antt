-- Demand 3 across the C boundary: a call of `huskerivory_begin`, a list of calls of `huskerivory_advance` after it, and what
-- holds of them all together (document 01, "A call, from its entry"). Assumes nothing.
use Rattle.std.specs.Prelude.{ℕ, ◌*◌, ◌≡◌, Bool, cond, not, List, [], ◌∷◌, ◌++◌, map, T, eqb, length, get_or, take, drop}
use Rattle.registers.specs.Map.{offset_of}
use Rattle.registers.specs.declared.Register.{Register}
use Rattle.registers.specs.declared.Register.TheVariants.{Cr1, Cr2, Oar1, Oar2, Timingr, Isr, Icr, Rxdr, Txdr}
use Rattle.calls.specs.Advances.{Advance, NoRun}
use Rattle.calls.specs.Calls.{Request, call_number}
use Rattle.calls.specs.Demand.{Kept}
use Rattle.calls.specs.Outcomes.{refusal_number, refused_number, report_number, report_value, awaited_of}
use Rattle.calls.specs.Refusals.{request_of}
use Rattle.calls.specs.Steps.{begin_of}
use Rattle.calls.specs.declared.Call.{Call}
use Rattle.calls.specs.declared.Refusal.{Refusal}
use Rattle.calls.specs.declared.Refusal.TheVariants.{Address, List as BadList, Buffer, NoSuchCall, SavedCall as BadSavedCall}
use Rattle.calls.specs.declared.Report.{Report}
use Rattle.calls.specs.declared.Report.TheVariants.{Over, Full, Waiting, Refused}
use Rattle.saved.specs.Saved.{outcomes, saved_bytes, saved_in}
use Rattle.words.specs.Words.{Below, words_in, bytes_of}
use Rattle.boundary.specs.Calls.{told, description_of, operations_in, as_begin_left, begin_left_in, Answer, as_advance_left, advance_left_in}

-- ---- Calls that came back: what each was lent, what it returned, the lent bytes as it left them, and what its contract says
-- of that.

pub record BoundaryBegin : Type 0 where
  pub description : List ℕ
  pub operations : List ℕ
  pub buffer : List ℕ
  pub saved : List ℕ
  pub refusal : ℕ
  pub saved_left : List ℕ
  pub contract : as_begin_left refusal saved_left ≡ begin_left_in (description_of description) (operations_in operations) (length buffer) saved

pub record BoundaryAdvance : Type 0 where
  pub description : List ℕ
  pub operations : List ℕ
  pub saved : List ℕ
  pub buffer : List ℕ
  pub answers : List ℕ
  pub log : List ℕ
  pub report : ℕ
  pub answer : List ℕ
  pub saved_left : List ℕ
  pub buffer_left : List ℕ
  pub log_left : List ℕ
  pub contract : as_advance_left report answer saved_left buffer_left log_left ≡ advance_left_in (description_of description) (operations_in operations) saved buffer answers log
  pub buffer_bytes : Below 256 buffer
  pub answer_bytes : Below 256 answers

-- it reported `refused`, the twelfth of document 01's outcome words
abbrev pub says_refused : BoundaryAdvance → Bool
says_refused C = eqb C.report refused_number

-- the four numbers that it left
abbrev pub answer_in : List ℕ → Answer
answer_in numbers = record { value = get_or numbers 0 0; awaited = get_or numbers 1 0; used = get_or numbers 2 0; written = get_or numbers 3 0 }

abbrev pub answer_of : BoundaryAdvance → Answer
answer_of C = answer_in C.answer

-- ---- What goes from one advance to the next (same section: demand 3 is one statement on the whole list of advances). Each is
-- handed the saved bytes as the last call left them. An accepted one is lent the begun description d, the begun operations ops,
-- and the buffer b as the last accepted one left it; a refused one may be lent any others.
pub record BytesHanded (d ops s b : List ℕ) (C : BoundaryAdvance) : Type 0 where
  pub saved : C.saved ≡ s
  pub description : T (not (says_refused C)) → C.description ≡ d
  pub operations : T (not (says_refused C)) → C.operations ≡ ops
  pub buffer : T (not (says_refused C)) → C.buffer ≡ b

abbrev pub BytesInTurn : List ℕ → List ℕ → List ℕ → List ℕ → List BoundaryAdvance → Type 0
BytesInTurn d ops s b [] = Unit {0}
BytesInTurn d ops s b (C ∷ Cs) = BytesHanded d ops s b C × BytesInTurn d ops C.saved_left (cond (says_refused C) b C.buffer_left) Cs

-- the advances Cs after the begin B
abbrev pub BytesAfter : BoundaryBegin → List BoundaryAdvance → Type 0
BytesAfter B Cs = BytesInTurn B.description B.operations B.saved_left B.buffer Cs

-- ---- What an advance says: its numbers as a report, and its bytes as words.

-- the refusal of a number of document 01's table
abbrev pub refusals : List Refusal
refusals = Address ∷ BadList ∷ Buffer ∷ NoSuchCall ∷ BadSavedCall ∷ []

abbrev pub refusal_in : List Refusal → ℕ → Refusal
refusal_in [] n = BadSavedCall
refusal_in (r ∷ rs) n = cond (eqb n (refusal_number r)) r (refusal_in rs n)

-- the register of an offset
abbrev pub registers : List Register
registers = Cr1 ∷ Cr2 ∷ Oar1 ∷ Oar2 ∷ Timingr ∷ Isr ∷ Icr ∷ Rxdr ∷ Txdr ∷ []

abbrev pub register_in : List Register → ℕ → Register
register_in [] offset = Txdr
register_in (r ∷ rs) offset = cond (eqb offset (offset_of r)) r (register_in rs offset)

-- document 01's outcome words in their order (section "Bench"), with the value v and the awaited register's offset; `full` comes
-- last. That no other numbers come up is a part of what holds: `ReadExactly`, below.
abbrev pub reports : ℕ → ℕ → List Report
reports v awaited =
    map Over (outcomes v) ++ Waiting (register_in registers awaited) ∷ Refused (refusal_in refusals v) ∷ Full ∷ []

abbrev pub report_in : ℕ → Answer → Report
report_in report a = get_or (reports a.value a.awaited) report Full

-- so it is an advance as demand 3 speaks of one
abbrev pub as_advance : BoundaryAdvance → Advance
as_advance C =
    record {
      words = description_of C.description;
      operations = operations_in C.operations;
      buffer = C.buffer;
      answers = words_in C.answers;
      log = words_in C.log;
      result =
          record {
            used = (answer_of C).used;
            written = (answer_of C).written;
            saved = saved_in C.saved_left;
            report = report_in C.report (answer_of C);
          };
      buffer_left = C.buffer_left;
      log_left = words_in C.log_left;
    }

-- ---- What holds

abbrev pub request_in : BoundaryBegin → Call → Request
request_in B c = request_of c (description_of B.description) (operations_in B.operations) (length B.buffer)

-- Begin returned 0: it left the bytes of the begun call that the description names, and the advances are one uncut run of it,
-- with all that demand 3 says of that.
pub record Ran (B : BoundaryBegin) (As : List Advance) : Type 0 where
  pub call : Call
  pub named : call_number call ≡ (told B.description).call
  pub begun : B.saved_left ≡ saved_bytes (begin_of (request_in B call))
  pub kept : Kept (request_in B call) B.buffer As

-- Nothing is lost where an advance is read so: its three numbers are those of the report, the bytes of its entries and of its
-- saved call are those of the words and of the saved call. The log's other bytes are as they were, and a refused advance
-- leaves every byte as it was.
pub record ReadExactly (C : BoundaryAdvance) : Type 0 where
  pub report : C.report ≡ report_number (as_advance C).result.report
  pub value : (answer_of C).value ≡ report_value (as_advance C).result.report
  pub awaited : (answer_of C).awaited ≡ awaited_of (as_advance C).result.report
  pub entries : take (8 * (answer_of C).written) C.log_left ≡ bytes_of (take (2 * (answer_of C).written) (words_in C.log_left))
  pub others : drop (8 * (answer_of C).written) C.log_left ≡ drop (8 * (answer_of C).written) C.log
  pub saved : T (not (says_refused C)) → C.saved_left ≡ saved_bytes (saved_in C.saved_left)
  pub refused_saved : T (says_refused C) → C.saved_left ≡ C.saved
  pub refused_buffer : T (says_refused C) → C.buffer_left ≡ C.buffer
  pub refused_log : T (says_refused C) → C.log_left ≡ C.log

abbrev pub AllReadExactly : List BoundaryAdvance → Type 0
AllReadExactly [] = Unit {0}
AllReadExactly (C ∷ Cs) = ReadExactly C × AllReadExactly Cs

pub record BoundaryDemand3 (B : BoundaryBegin) (Cs : List BoundaryAdvance) : Type 0 where
  pub accepted : B.refusal ≡ 0 → Ran B (map as_advance Cs)
  -- begin returned the number of a refusal: every advance is refused, and nothing was done
  pub refused : T (not (eqb B.refusal 0)) → NoRun B.buffer (map as_advance Cs)
  pub exactly : AllReadExactly Cs
