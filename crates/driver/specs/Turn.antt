-- Serves the proof of the loop: one turn of it, over the whole lists of answers and of the log's words. Assumes nothing.
use Rattle.std.specs.Prelude.{ℕ, ◌+◌, cond, ◌≡◌, List, ltb, length, get_or, set, Option, Some, None, Result, Ok, Err}
use Rattle.registers.specs.declared.Register.{Register}
use Rattle.registers.specs.declared.Register.TheVariants.{Rxdr}
use Rattle.calls.specs.Run.{Entry, read_entry, write_entry, byte_of}
use Rattle.calls.specs.Steps.{access_at, saved_at, one_more, after_in}
use Rattle.calls.specs.declared.Access.{Access}
use Rattle.calls.specs.declared.Access.TheVariants.{Read, Take, Write, Nothing}
use Rattle.calls.specs.declared.Advanced.{Advanced}
use Rattle.calls.specs.declared.Call.{Call}
use Rattle.calls.specs.declared.Description.{Description}
use Rattle.calls.specs.declared.Report.{Report}
use Rattle.calls.specs.declared.Report.TheVariants.{Over, Waiting}
use Rattle.calls.specs.declared.SavedCall.{SavedCall}
use Rattle.calls.specs.declared.View.{View}
use Rattle.calls.specs.declared.Step.{Step}
use Rattle.driver.specs.declared.quick.Quick.{Quick}
use Rattle.driver.specs.declared.run.Made.{Made}
use Rattle.driver.specs.declared.run.Turned.{Turned}

-- nothing used, nothing written
abbrev pub untouched : Report → SavedCall → Advanced
untouched r s = record { used = 0; written = 0; saved = s; report = r }

-- what a turn, or the access of one, comes to, with the buffer and the log as it leaves them
pub record Left (A : Type 0) : Type 0 where
  pub came : Result A Report
  pub buffer : List ℕ
  pub log : List ℕ

abbrev pub left : {A : Type 0} → Result A Report → List ℕ → List ℕ → Left A
left r b log = record { came = r; buffer = b; log = log }

-- ---- The access of a turn, with the answer u of l, the buffer b and the log from its word `at` on

-- the answer to a read
abbrev pub answer_to : Register → List ℕ → ℕ → Result ℕ Report
answer_to r l u = cond (ltb u (length l)) (Ok (get_or l u 0)) (Err (Waiting r))

abbrev pub made : ℕ → ℕ → Made
made u a = record { used = u; answer = a }

-- with an entry at `at`
abbrev pub entered : Entry → ℕ → ℕ → List ℕ → List ℕ → ℕ → Left Made
entered e u a b log at = left (Ok (made u a)) b (set (set log at e.code) (at + 1) e.value)

abbrev pub made_by : SavedCall → List ℕ → List ℕ → ℕ → List ℕ → ℕ → Access → Left Made
made_by s b l u log at Nothing = left (Err (Over s.outcome)) b log
made_by s b l u log at (Write r v) = entered (write_entry r v) u 0 b log at
made_by s b l u log at (Read r) =
    cond (ltb u (length l)) (entered (read_entry r (get_or l u 0)) (u + 1) (get_or l u 0) b log at) (left (Err (Waiting r)) b log)
made_by s b l u log at (Take i) =
    cond (ltb u (length l))
    (entered (read_entry Rxdr (get_or l u 0)) (u + 1) (get_or l u 0) (set b i (byte_of (get_or l u 0))) log at) (left (Err (Waiting Rxdr)) b log)

abbrev pub made_of : Call → Description → View → SavedCall → List ℕ → List ℕ → ℕ → List ℕ → ℕ → Left Made
made_of c d v s b l u log at = made_by s b l u log at (access_at c d v b s s.step)

-- ---- The turn: the call after its access, too

abbrev pub turned : ℕ → SavedCall → Turned
turned u s = record { used = u; saved = s }

abbrev pub after_made : Call → Description → View → SavedCall → Result Made Report → Result Turned Report
after_made c d v s (Ok m) = Ok (turned m.used (after_in c d v s m.answer))
after_made c d v s (Err r) = Err r

abbrev pub turn_by : Call → Description → View → SavedCall → Left Made → Left Turned
turn_by c d v s m = left (after_made c d v s m.came) m.buffer m.log

abbrev pub turn_of : Call → Description → View → SavedCall → List ℕ → List ℕ → ℕ → List ℕ → ℕ → Left Turned
turn_of c d v s b l u log at = turn_by c d v s (made_of c d v s b l u log at)

-- ---- A quick turn

abbrev pub quickly : ℕ → ℕ → ℕ → Step → Quick
quickly u j m t = record { used = u; byte = j; out = m; step = t }

abbrev pub moved_by : SavedCall → Quick → SavedCall
moved_by s k = saved_at s k.step s.piece k.byte k.out s.word s.outcome (one_more s.accesses)

-- Where one was made, it is the turn of whatever call. Else nothing was touched.
abbrev pub Quickly : View → SavedCall → List ℕ → List ℕ → ℕ → List ℕ → ℕ → Option Quick → List ℕ → List ℕ → Type 0
Quickly v s b l u log at (Some k) b' log' =
    (c : Call) (d : Description) → left (Ok (turned k.used (moved_by s k))) b' log' ≡ turn_of c d v s b l u log at
Quickly v s b l u log at None b' log' = (b' ≡ b) × (log' ≡ log)
