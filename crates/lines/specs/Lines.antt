-- The lines that the bench prints (document 01, "Bench"), as lists of ASCII codes. Assumes nothing.
use Rattle.std.specs.Prelude.{ℕ, ◌%◌, cond, List, [], ◌∷◌, ◌++◌, eqb, ltb, length}
use Rattle.calls.specs.Outcomes.{report_value}
use Rattle.calls.specs.declared.Outcome.{Outcome}
use Rattle.calls.specs.declared.Outcome.TheVariants.{Done, Bus, Arbitration, Nack, Stopped, ExpectedWrite, ExpectedRead, EventRead, EventWrite, EventStop}
use Rattle.calls.specs.declared.Report.{Report}
use Rattle.calls.specs.declared.Report.TheVariants.{Over, Full, Waiting, Refused}
use Rattle.numerals.specs.Numbers.{hex_of, decimal_of}
use Rattle.page.specs.Page.{entries_text}
use Rattle.window.specs.Codes.{codes}
use Rattle.lines.specs.declared.Form.{Form}
use Rattle.lines.specs.declared.Form.TheVariants.{Lines, Page}

abbrev pub space : List ℕ
space = codes " "

abbrev pub newline : List ℕ
newline = codes "\n"

abbrev pub outcome_word : Outcome → List ℕ
outcome_word (Done n) = codes "done"
outcome_word Bus = codes "bus"
outcome_word Arbitration = codes "arbitration"
outcome_word Nack = codes "nack"
outcome_word Stopped = codes "stopped"
outcome_word ExpectedWrite = codes "expected-write"
outcome_word ExpectedRead = codes "expected-read"
outcome_word (EventRead n) = codes "event-read"
outcome_word (EventWrite n) = codes "event-write"
outcome_word EventStop = codes "event-stop"

-- `full` is no outcome word: a whole run is never full
abbrev pub report_word : Report → List ℕ
report_word (Over o) = outcome_word o
report_word (Waiting r) = codes "waiting"
report_word (Refused r) = codes "refused"
report_word Full = codes "full"

abbrev pub number_field : ℕ → List ℕ
number_field n = space ++ decimal_of n

abbrev pub call_start : ℕ → Report → List ℕ
call_start n r = decimal_of n ++ space ++ report_word r

-- a call: its number, outcome word and value, the answers used, the accesses made
unfoldable pub call_line : ℕ → Report → ℕ → ℕ → List ℕ
call_line n r used accesses = call_start n r ++ number_field (report_value r) ++ number_field used ++ number_field accesses ++ newline

-- an access, from the two words of its log entry: the offset, plus 0x100 for a write, and the value
abbrev pub letter_of : ℕ → List ℕ
letter_of offset = cond (ltb offset 0x100) (codes "r ") (codes "w ")

unfoldable pub access_line : ℕ → ℕ → List ℕ
access_line offset value = letter_of offset ++ hex_of 2 (offset % 0x100) ++ space ++ hex_of 8 value ++ newline

-- the entries of a log's words
unfoldable pub access_lines : List ℕ → List ℕ
access_lines [] = []
access_lines (w ∷ []) = []
access_lines (offset ∷ value ∷ ws) = access_line offset value ++ access_lines ws

-- and in the form asked for, lines or a service page whose first entry is entry n
unfoldable pub log_text : Form → ℕ → List ℕ → List ℕ
log_text Lines n ws = access_lines ws
log_text Page n ws = entries_text n ws

unfoldable pub bytes_text : List ℕ → List ℕ
bytes_text [] = []
bytes_text (b ∷ bs) = hex_of 2 b ++ bytes_text bs

-- `b` and the buffer, `b` alone if it is empty
abbrev pub full_buffer : List ℕ → List ℕ
full_buffer bs = codes "b " ++ bytes_text bs ++ newline

unfoldable pub buffer_line : List ℕ → List ℕ
buffer_line bs = cond (eqb (length bs) 0) (codes "b\n") (full_buffer bs)

abbrev pub refusal_line : List ℕ
refusal_line = codes "file 14\n"
