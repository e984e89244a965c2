-- A call driven to its end, piece after piece, its accesses put into a window as they come. Assumes nothing.
use Rattle.std.specs.Prelude.{ℕ, ◌+◌, List, length}
use Rattle.calls.specs.Joined.{Reached, as_reached}
use Rattle.calls.specs.Run.{Run, begun_of, run_of}
use Rattle.calls.specs.declared.Description.{Description}
use Rattle.lines.specs.Lines.{log_text}
use Rattle.lines.specs.declared.Form.{Form}
use Rattle.window.specs.Window.{Laid, laid, emit_of}
use Rattle.drive.specs.declared.Driven.{Driven}

-- how far a driven call has come
abbrev pub as_driven : Driven → List ℕ → List ℕ → Reached Laid
as_driven t b out = as_reached t.advanced b (laid t.place out)

-- entries put into the window after w others, in the form asked for; ws are their words. Where the text stands is the window's to say.
abbrev pub in_lines : Form → ℕ → List ℕ → Laid → Laid
in_lines form w ws L = emit_of (log_text form (w + 1) ws) L

-- The run of a call: one advance over a log of so many places. With l answers it is the whole uncut run if 6 (l + 1) is not
-- more (`whole_run` in the crate `calls`), as it is for every bench file.
abbrev pub places : ℕ
places = 131072

abbrev pub run_for : Description → List ℕ → List ℕ → List ℕ → Run
run_for d ops b l = run_of d ops places (begun_of d ops (length b)).saved b l
