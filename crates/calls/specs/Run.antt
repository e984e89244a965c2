-- A call that runs: begin, the run that nothing cuts, and one advance (document 01, "A call, from its entry").
-- Assumes nothing.
use Rattle.std.specs.Prelude.{ℕ, zero, suc, ◌+◌, ◌/◌, ◌%◌, ◌^◌, Bool, false, cond, not, ◌&&◌, List, [], ◌∷◌, ◌++◌, eqb, length, drop, set, Result, Ok, Err}
use Rattle.registers.specs.Map.{offset_of}
use Rattle.registers.specs.Places.{ICR_NACKCF}
use Rattle.registers.specs.declared.Register.{Register}
use Rattle.registers.specs.declared.Register.TheVariants.{Icr, Rxdr, Txdr}
use Rattle.calls.specs.Calls.{Request}
use Rattle.calls.specs.Refusals.{request_of, check_of, accepts}
use Rattle.calls.specs.Steps.{access_of, after_of, begin_of, same_step, fresh_at}
use Rattle.calls.specs.declared.Access.{Access}
use Rattle.calls.specs.declared.Access.TheVariants.{Read, Take, Write, Nothing}
use Rattle.calls.specs.declared.Advanced.{Advanced}
use Rattle.calls.specs.declared.Begun.{Begun}
use Rattle.calls.specs.declared.Description.{Description}
use Rattle.calls.specs.declared.Refusal.TheVariants.{SavedCall as BadSavedCall}
use Rattle.calls.specs.declared.Report.{Report}
use Rattle.calls.specs.declared.Report.TheVariants.{Over, Full, Waiting, Refused}
use Rattle.calls.specs.declared.SavedCall.{SavedCall}
use Rattle.calls.specs.declared.Step.TheVariants.{Ended}
use Rattle.calls.specs.declared.Call.{Call}
use Rattle.calls.specs.declared.Refusal.{Refusal}

-- An entry of the log: the register's offset, plus 0x100 for a write, and the value.
pub record Entry : Type 0 where
  pub code : ℕ
  pub value : ℕ

abbrev pub read_entry : Register → ℕ → Entry
read_entry r a = record { code = offset_of r; value = a }

abbrev pub write_code : Register → ℕ
write_code r = offset_of r + 0x100

abbrev pub write_entry : Register → ℕ → Entry
write_entry r v = record { code = write_code r; value = v }

-- two words each
abbrev pub words_of : List Entry → List ℕ
words_of [] = []
words_of (e ∷ es) = e.code ∷ e.value ∷ words_of es

-- RXDR's low eight bits
abbrev pub byte_of : ℕ → ℕ
byte_of a = a % 256

-- ---- The uncut run: access after access, with no limit to its log, until the call has ended or a read finds no answer.
-- Here its first k accesses.
pub record Uncut : Type 0 where
  pub saved : SavedCall
  pub buffer : List ℕ
  pub log : List Entry

abbrev pub here : SavedCall → List ℕ → Uncut
here s b = record { saved = s; buffer = b; log = [] }

abbrev pub first : Entry → Uncut → Uncut
first e U = record { saved = U.saved; buffer = U.buffer; log = e ∷ U.log }

abbrev pub uncut_turn : (SavedCall → List ℕ → List ℕ → Uncut) → Request → SavedCall → List ℕ → List ℕ → Access → Uncut
uncut_turn go q s b l Nothing = here s b
uncut_turn go q s b l (Write r v) = first (write_entry r v) (go (after_of q s 0) b l)
uncut_turn go q s b [] (Read r) = here s b
uncut_turn go q s b (a ∷ l) (Read r) = first (read_entry r a) (go (after_of q s a) b l)
uncut_turn go q s b [] (Take i) = here s b
uncut_turn go q s b (a ∷ l) (Take i) = first (read_entry Rxdr a) (go (after_of q s a) (set b i (byte_of a)) l)

unfoldable pub uncut_of : Request → ℕ → SavedCall → List ℕ → List ℕ → Uncut
uncut_of q zero s b l = here s b
uncut_of q (suc k) s b l = uncut_turn (uncut_of q k) q s b l (access_of q b s)

-- ---- Begin. What a refused one hands out has number 0, which no call has.
abbrev pub no_call : SavedCall
no_call = fresh_at 0 Ended

abbrev pub begun_by : Result Call Refusal → Description → List ℕ → ℕ → Begun
begun_by (Ok c) d ops n = record { saved = begin_of (request_of c d ops n); verdict = Ok c }
begun_by (Err r) d ops n = record { saved = no_call; verdict = Err r }

unfoldable pub begun_of : Description → List ℕ → ℕ → Begun
begun_of d ops n = begun_by (check_of d ops n) d ops n

-- ---- One advance, over a number of log places. It stops where the call has ended; else, for want of a place, as `full`;
-- else, for want of an answer to a read, as `waiting`.
pub record Run : Type 0 where
  pub report : Report
  pub saved : SavedCall
  pub buffer : List ℕ
  pub used : ℕ
  pub entries : List Entry

abbrev pub stops : Report → SavedCall → List ℕ → Run
stops r s b = record { report = r; saved = s; buffer = b; used = 0; entries = [] }

abbrev pub wrote : Entry → Run → Run
wrote e R = record { report = R.report; saved = R.saved; buffer = R.buffer; used = R.used; entries = e ∷ R.entries }

abbrev pub took : Entry → Run → Run
took e R = record { report = R.report; saved = R.saved; buffer = R.buffer; used = suc R.used; entries = e ∷ R.entries }

abbrev pub turn_of : (SavedCall → List ℕ → List ℕ → Run) → Request → SavedCall → List ℕ → List ℕ → Access → Run
turn_of go q s b l Nothing = stops (Over s.outcome) s b
turn_of go q s b l (Write r v) = wrote (write_entry r v) (go (after_of q s 0) b l)
turn_of go q s b [] (Read r) = stops (Waiting r) s b
turn_of go q s b (a ∷ l) (Read r) = took (read_entry r a) (go (after_of q s a) b l)
turn_of go q s b [] (Take i) = stops (Waiting Rxdr) s b
turn_of go q s b (a ∷ l) (Take i) = took (read_entry Rxdr a) (go (after_of q s a) (set b i (byte_of a)) l)

unfoldable pub advance_from : Request → ℕ → SavedCall → List ℕ → List ℕ → Run
advance_from q zero s b l = stops (cond (same_step s.step Ended) (Over s.outcome) Full) s b
advance_from q (suc n) s b l = turn_of (advance_from q n) q s b l (access_of q b s)

-- The description is looked at as begin looks at it, then row 13. A refusal changes nothing.
abbrev pub run_by : Result Call Refusal → Description → List ℕ → ℕ → SavedCall → List ℕ → List ℕ → Run
run_by (Err r) d ops n s b l = stops (Refused r) s b
run_by (Ok c) d ops n s b l =
    let q : Request = request_of c d ops (length b) in
    cond (accepts q s) (advance_from q n s b l) (stops (Refused BadSavedCall) s b)

unfoldable pub run_of : Description → List ℕ → ℕ → SavedCall → List ℕ → List ℕ → Run
run_of d ops n s b l = run_by (check_of d ops (length b)) d ops n s b l

-- What an advance returns, with the buffer and the log as it leaves them: its entries stand first, two words each, and the
-- log's other words are as they were, an odd last one always.
pub record Final : Type 0 where
  pub advanced : Advanced
  pub buffer : List ℕ
  pub log : List ℕ

abbrev pub final_by : List ℕ → Run → Final
final_by log R =
    record {
      advanced = record { used = R.used; written = length R.entries; saved = R.saved; report = R.report };
      buffer = R.buffer;
      log = words_of R.entries ++ drop (length (words_of R.entries)) log;
    }

abbrev pub final_of : Description → List ℕ → SavedCall → List ℕ → List ℕ → List ℕ → Final
final_of d ops s b l log = final_by log (run_of d ops (length log / 2) s b l)

abbrev pub as_final : Advanced → List ℕ → List ℕ → Final
as_final a b log = record { advanced = a; buffer = b; log = log }

-- ---- The bytes of a log. A write to TXDR puts a byte out, unless it is the flush after a NACK, which comes two entries
-- after NACKCF was written to ICR. `two` and `one` say whether that was written two entries ago, and one.
abbrev pub is_nack_clear : Entry → Bool
is_nack_clear e = eqb e.code (write_code Icr) && eqb e.value (2 ^ ICR_NACKCF.at)

abbrev pub out_of : Bool → Entry → List ℕ
out_of two e = cond (eqb e.code (write_code Txdr) && not two) (e.value ∷ []) []

abbrev pub put_out_from : Bool → Bool → List Entry → List ℕ
put_out_from two one [] = []
put_out_from two one (e ∷ es) = out_of two e ++ put_out_from one (is_nack_clear e) es

abbrev pub put_out : List Entry → List ℕ
put_out es = put_out_from false false es

-- taken in are the low eight bits of its RXDR reads
abbrev pub in_of : Entry → List ℕ
in_of e = cond (eqb e.code (offset_of Rxdr)) (byte_of e.value ∷ []) []

abbrev pub taken_in : List Entry → List ℕ
taken_in [] = []
taken_in (e ∷ es) = in_of e ++ taken_in es
