-- What the bench prints for a file (document 01, "Bench"), its logs as access lines or as service pages (R-2). Assumes nothing.
use Rattle.std.specs.Prelude.{ℕ, zero, suc, ◌*◌, ◌≡◌, Bool, false, cond, not, ◌&&◌, ◌||◌, List, [], ◌++◌, eqb, length, get_or, take, drop}
use Rattle.calls.specs.Advances.{is_refusal}
use Rattle.calls.specs.Refusals.{check_of}
use Rattle.calls.specs.Run.{Run, words_of}
use Rattle.calls.specs.Whole.{WholeCall}
use Rattle.calls.specs.declared.Description.{Description}
use Rattle.benchfile.specs.Calls.{plain, head_description, operations_of, lent_buffer}
use Rattle.benchfile.specs.File.{body_size, size_wrong, words_wrong, file_wrong}
use Rattle.words.specs.Words.{words_in}
use Rattle.drive.specs.Drive.{run_for}
use Rattle.lines.specs.Lines.{call_line, log_text, buffer_line, refusal_line}
use Rattle.lines.specs.declared.Form.{Form}
use Rattle.bench.specs.declared.call.Told.{Told}

-- a call's accesses in either form and then, for 7, 9 and 11 unless refused, its buffer; 25 and 27 are printed like 9 and 11
unfoldable pub shows_buffer : ℕ → Bool
shows_buffer n = eqb n 7 || (eqb n 9 || eqb n 11)

abbrev pub buffer_text : ℕ → Run → List ℕ
buffer_text n R = cond (shows_buffer n && not (is_refusal R.report)) (buffer_line R.buffer) []

abbrev pub run_text : Form → ℕ → Run → List ℕ
run_text form n R = log_text form 1 (words_of R.entries) ++ buffer_text n R

-- what its line says of a run
abbrev pub told_by : Run → Told
told_by R = record { report = R.report; used = R.used; accesses = length R.entries }

-- a call, with its line first
abbrev pub call_text : Form → ℕ → Run → List ℕ
call_text form n R = call_line n R.report R.used (length R.entries) ++ run_text form (plain n) R

abbrev pub run_in : ℕ → ℕ → List ℕ → List ℕ → Run
run_in n a head answers = run_for (head_description n a head) (operations_of n head) (lent_buffer (plain n) a head) answers

-- the call of a table's first row, its body first in `bodies`, head before answers
abbrev pub row_text : Form → List ℕ → List ℕ → List ℕ
row_text form rows bodies =
    let head : ℕ = get_or rows 2 0 in
    call_text form (get_or rows 0 0) (run_in (get_or rows 0 0) (get_or rows 1 0) (take head bodies) (take (get_or rows 3 0) (drop head bodies)))

-- n calls in turn
unfoldable pub calls_text : Form → ℕ → List ℕ → List ℕ → List ℕ
calls_text form zero rows bodies = []
calls_text form (suc n) rows bodies = row_text form rows bodies ++ calls_text form n (drop 4 rows) (drop (body_size rows) bodies)

-- the words after the count n: the table of n rows, then the bodies
abbrev pub table_text : Form → ℕ → List ℕ → List ℕ
table_text form n words = calls_text form n words (drop (4 * n) words)

unfoldable pub words_text : Form → List ℕ → List ℕ
words_text form words = cond (words_wrong words) refusal_line (table_text form (get_or words 0 0) (drop 1 words))

unfoldable pub file_text : Form → List ℕ → List ℕ
file_text form file = cond (size_wrong (length file)) refusal_line (words_text form (words_in file))

-- ---- Each run that is printed is the whole uncut run: its log did not fill.
abbrev pub CallsWhole : ℕ → List ℕ → List ℕ → Type 0
CallsWhole zero rows bodies = Unit {0}
CallsWhole (suc n) rows bodies =
    let head : List ℕ = take (get_or rows 2 0) bodies in
    let d : Description = head_description (get_or rows 0 0) (get_or rows 1 0) head in
    let ops : List ℕ = operations_of (get_or rows 0 0) head in
    let b : List ℕ = lent_buffer (plain (get_or rows 0 0)) (get_or rows 1 0) head in
    let l : List ℕ = take (get_or rows 3 0) (drop (get_or rows 2 0) bodies) in
    WholeCall (check_of d ops (length b)) d ops b l (run_for d ops b l) × CallsWhole n (drop 4 rows) (drop (body_size rows) bodies)

abbrev pub EveryWhole : List ℕ → Type 0
EveryWhole file =
    let words : List ℕ = drop 1 (words_in file) in
    let n : ℕ = get_or (words_in file) 0 0 in
    file_wrong file ≡ false → CallsWhole n words (drop (4 * n) words)
