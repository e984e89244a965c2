-- What the C boundary gives for a call: the core's begin, advance and next access over what the bytes mean. Assumes nothing.
use Rattle.std.specs.Prelude.{ℕ, ◌*◌, ◌/◌, Bool, cond, not, ◌||◌, List, [], ◌∷◌, ◌++◌, eqb, length, get_or, take, drop, Option, Some, None, Result, Ok, Err}
use Rattle.registers.specs.Map.{offset_of}
use Rattle.words.specs.Words.{words_in, bytes_of}
use Rattle.address_words.specs.Words.{mode_of, config_in}
use Rattle.saved.specs.Saved.{saved_length, saved_in, written_to}
use Rattle.calls.specs.Advances.{is_refusal}
use Rattle.calls.specs.Calls.{call_number}
use Rattle.calls.specs.Outcomes.{refusal_number, report_number, report_value, awaited_of}
use Rattle.calls.specs.Run.{Entry, words_of, Run, begun_of, run_of}
use Rattle.calls.specs.declared.Begun.{Begun}
use Rattle.calls.specs.declared.Call.TheVariants.{New, TargetNew, ConfigureTargetAddresses}
use Rattle.calls.specs.declared.Description.{Description}
use Rattle.calls.specs.declared.Next.{Next}
use Rattle.calls.specs.declared.Next.TheVariants.{Over, Read, Write, Refused}
use Rattle.calls.specs.declared.Report.{Report}
use Rattle.driver.specs.Next.{next_for}
use Rattle.boundary.specs.declared.call.AccessAnswer.{AccessAnswer}
use Rattle.calls.specs.declared.Call.{Call}
use Rattle.calls.specs.declared.Refusal.{Refusal}
use Rattle.calls.specs.declared.TargetConfig.{TargetConfig}

-- ---- What is asked: the words of a description. Those after the last named one are not looked at.
pub record CallDescription : Type 0 where
  pub call : ℕ
  pub address : ℕ
  pub ten : ℕ
  pub listen : ℕ
  pub timingr : ℕ
  pub configured : ℕ
  pub own : ℕ
  pub own_ten : ℕ
  pub secondary : ℕ
  pub mask : ℕ

abbrev pub told : List ℕ → CallDescription
told words =
    record {
      call = get_or words 0 0;
      address = get_or words 1 0;
      ten = get_or words 2 0;
      listen = get_or words 3 0;
      timingr = get_or words 4 0;
      configured = get_or words 5 0;
      own = get_or words 6 0;
      own_ten = get_or words 7 0;
      secondary = get_or words 8 0;
      mask = get_or words 9 0;
    }

-- a number that says yes or no says yes if it is not 0
abbrev pub yes : ℕ → Bool
yes n = not (eqb n 0)

-- 1 has a configuration where it says so, 2 and 3 always.
abbrev pub has_configuration : ℕ → ℕ → Bool
has_configuration n configured =
    cond (eqb n (call_number New)) (yes configured) (eqb n (call_number TargetNew) || eqb n (call_number ConfigureTargetAddresses))

abbrev pub configuration_of : CallDescription → Option TargetConfig
configuration_of a =
    cond (has_configuration a.call a.configured) (Some (config_in a.own a.own_ten a.secondary a.mask)) None

abbrev pub described_by : CallDescription → Description
described_by a =
    record {
      call = a.call;
      address = a.address;
      listen = a.listen;
      timing = record { 0 = a.timingr };
      config = configuration_of a;
      mode = mode_of (yes a.ten);
    }

abbrev pub description_of : List ℕ → Description
description_of words = described_by (told words)

-- Of an operation list 65 words are read: more than 64 are refused, whatever follows.
abbrev pub operations_in : List ℕ → List ℕ
operations_in bytes = take 65 (words_in bytes)

-- ---- Begin: 0 or the number of the refusal, and the saved call as bytes. A place for it of another length is refused
-- as 13, after what is wrong with the description, and left as it is.
abbrev pub verdict_number : Result Call Refusal → ℕ → ℕ
verdict_number (Err r) n = refusal_number r
verdict_number (Ok c) n = cond (eqb n saved_length) 0 13

pub record BeginLeft : Type 0 where
  pub refusal : ℕ
  pub saved : List ℕ

abbrev pub as_begin_left : ℕ → List ℕ → BeginLeft
as_begin_left n saved = record { refusal = n; saved = saved }

abbrev pub begin_left_by : Begun → List ℕ → BeginLeft
begin_left_by B saved = as_begin_left (verdict_number B.verdict (length saved)) (written_to saved B.saved)

abbrev pub begin_left_in : Description → List ℕ → ℕ → List ℕ → BeginLeft
begin_left_in d ops n saved = begin_left_by (begun_of d ops n) saved

-- ---- The next access: 0 over, 1 a read, 2 a write, 3 refused; and the register's offset or the refusal's number.
abbrev pub kind_and_value : ℕ → ℕ → AccessAnswer
kind_and_value kind value = record { kind = kind; value = value }

abbrev pub access_answer : Next → AccessAnswer
access_answer Over = kind_and_value 0 0
access_answer (Read r) = kind_and_value 1 (offset_of r)
access_answer (Write r) = kind_and_value 2 (offset_of r)
access_answer (Refused why) = kind_and_value 3 (refusal_number why)

abbrev pub access_in : Description → List ℕ → List ℕ → List ℕ → AccessAnswer
access_in d ops saved b = access_answer (next_for d ops (saved_in saved) b)

-- ---- Advance: its report by document 01's numbers, and four numbers more. A refused one leaves all bytes as they were. A place of
-- the log is eight bytes; its entries stand first, the other bytes are as they were.
pub record Answer : Type 0 where
  pub value : ℕ
  -- for `waiting` the offset of the register whose word is awaited
  pub awaited : ℕ
  -- answers, in words, and entries
  pub used : ℕ
  pub written : ℕ

abbrev pub numbers_of : Answer → List ℕ
numbers_of a = a.value ∷ a.awaited ∷ a.used ∷ a.written ∷ []

abbrev pub answer_for : Report → ℕ → ℕ → Answer
answer_for r used written = record { value = report_value r; awaited = awaited_of r; used = used; written = written }

pub record AdvanceLeft : Type 0 where
  pub report : ℕ
  pub answer : List ℕ
  pub saved : List ℕ
  pub buffer : List ℕ
  pub log : List ℕ

abbrev pub as_advance_left : ℕ → List ℕ → List ℕ → List ℕ → List ℕ → AdvanceLeft
as_advance_left report answer saved b log = record { report = report; answer = answer; saved = saved; buffer = b; log = log }

abbrev pub log_after : List Entry → List ℕ → List ℕ
log_after es log = bytes_of (words_of es) ++ drop (8 * length es) log

abbrev pub advance_left_by : Run → List ℕ → List ℕ → AdvanceLeft
advance_left_by R saved log =
    record {
      report = report_number R.report;
      answer = numbers_of (answer_for R.report R.used (length R.entries));
      saved = cond (is_refusal R.report) saved (written_to saved R.saved);
      buffer = R.buffer;
      log = log_after R.entries log;
    }

abbrev pub advance_left_in : Description → List ℕ → List ℕ → List ℕ → List ℕ → List ℕ → AdvanceLeft
advance_left_in d ops saved b answers log =
    advance_left_by (run_of d ops (length log / 8) (saved_in saved) b (words_in answers)) saved log
