-- The texts of a call's parts, of calls in turn, and of a file's words. Assumes nothing.
use Prim.Native.Nat.{ℕ, suc, ◌+◌, ◌-◌, ◌≤◌, ◌<◌}
use native.Mathlib.Omega.{arith}
use mathlib.Core.Path.{◌≡◌, sym, ap, ◌∙◌}
use mathlib.Core.Bool.{Bool, true, false, cond, not, ◌&&◌}
use mathlib.Core.List.{List, []}
use lib.ListN.{length, get_or, take, drop}
use Rattle.benchfile.specs.Calls.{plain, head_description, operations_of, lent_buffer}
use Rattle.benchfile.specs.File.{body_size}
use Rattle.calls.specs.Advances.{is_refusal}
use Rattle.calls.specs.Run.{Run, words_of}
use Rattle.calls.specs.declared.Description.{Description}
use Rattle.calls.specs.declared.Report.{Report}
use Rattle.calls.specs.Joined.{Reached, reached_by}
use Rattle.drive.specs.Drive.{as_driven, in_lines, run_for}
use Rattle.drive.specs.declared.Driven.{Driven}
use Rattle.lines.specs.Lines.{call_line, log_text, buffer_line}
use Rattle.lines.specs.declared.Form.{Form}
use Rattle.window.proofs.Laid.{emit_append, emit_none, then, front}
use Rattle.window.specs.Window.{Laid, emit_of, as_shown, window_of}
use Rattle.bench.specs.Text.{shows_buffer, buffer_text, run_text, told_by, call_text, run_in, row_text, calls_text}
use Rattle.bench.specs.declared.call.Told.{Told}

-- ---- a buffer, which stands in the text where the call has one to show and was not refused
module _ (n : ℕ) (r : Report) (s f : Bool) (x : List ℕ) (L M : Laid) (is : s ≡ shows_buffer n) where
  pub buffer_shown : s ≡ true → f ≡ is_refusal r → f ≡ false → M ≡ emit_of x L → M ≡ emit_of (cond (shows_buffer n && not (is_refusal r)) x []) L
  buffer_shown h e g m = rw (sym is ∙ h, sym e ∙ g) m

  pub refused_shows_none : s ≡ true → f ≡ is_refusal r → f ≡ true → L ≡ emit_of (cond (shows_buffer n && not (is_refusal r)) x []) L
  refused_shows_none h e g = rw (sym is ∙ h, sym e ∙ g) (sym (emit_none L))

  pub other_shows_none : s ≡ false → L ≡ emit_of (cond (shows_buffer n && not (is_refusal r)) x []) L
  other_shows_none h = rw (sym is ∙ h) (sym (emit_none L))

-- one of two texts
pub either : (t r : Bool) (x y : List ℕ) (L M : Laid) → r ≡ t → r ≡ true → M ≡ emit_of x L → M ≡ emit_of (cond t x y) L
either t r x y L M e h m = rw (sym e ∙ h) m

pub other : (t r : Bool) (x y : List ℕ) (L M : Laid) → r ≡ t → r ≡ false → M ≡ emit_of y L → M ≡ emit_of (cond t x y) L
other t r x y L M e h m = rw (sym e ∙ h) m

-- what a driven call tells
pub told : (form : Form) (t : Driven) (b out : List ℕ) (R : Run) (L : Laid) → as_driven t b out ≡ reached_by (in_lines form) R L →
    record { report = t.advanced.report; used = t.advanced.used; accesses = t.advanced.written } ≡ told_by R
told form t b out R L e =
    ap (λ (F : Reached Laid). record { report = F.advanced.report; used = F.advanced.used; accesses = F.advanced.written }) e

-- and shows: its accesses, and then its buffer
pub shown : (form : Form) (n : ℕ) (t : Driven) (b out : List ℕ) (R : Run) (K M : Laid) → as_driven t b out ≡ reached_by (in_lines form) R K →
    M ≡ emit_of (cond (shows_buffer n && not (is_refusal t.advanced.report)) (buffer_line b) []) (as_driven t b out).out → M ≡ emit_of (run_text form n R) K
shown form n t b out R K M e m =
    then (log_text form 1 (words_of R.entries)) (buffer_text n R) K (as_driven t b out).out M (ap (λ (F : Reached Laid). F.out) e)
    (m ∙ rw (ap (λ (F : Reached Laid). F.advanced.report) e, ap (λ (F : Reached Laid). F.buffer) e))

-- the buffer that a call is lent
pub lent : (t bytes : List ℕ) (n : ℕ) (bytes' : List ℕ) → as_shown n bytes' ≡ window_of 0 t bytes → length bytes ≡ 65536 → take n bytes' ≡ take 65536 t
lent t bytes n bytes' e z = front t bytes n bytes' e ∙ rw z

-- a call: its line, and then what it shows
pub called : (form : Form) (n a : ℕ) (head l : List ℕ) (like : ℕ) (d : Description) (ops : List ℕ) (T : Told) (K L M : Laid) →
    like ≡ plain n → d ≡ head_description n a head → ops ≡ operations_of n head → T ≡ told_by (run_for d ops (lent_buffer like a head) l) →
    L ≡ emit_of (call_line n T.report T.used T.accesses) K → M ≡ emit_of (run_text form like (run_for d ops (lent_buffer like a head) l)) L →
    M ≡ emit_of (call_text form n (run_in n a head l)) K
called form n a head l like d ops T K L M e f g t u v =
    let R : Run = run_in n a head l in
    let t' : T ≡ told_by R = rw (e, f, g) at t in
    then (call_line n R.report R.used (length R.entries)) (run_text form (plain n) R) K L M
    (u ∙ ap (λ (S : Told). emit_of (call_line n S.report S.used S.accesses) K) t') (rw (e, f, g) at v)

-- the call of a row, from its words
pub rowed : (form : Form) (rows bodies head rest l : List ℕ) (n a h k : ℕ) (K M : Laid) → n ≡ get_or rows 0 0 → a ≡ get_or rows 1 0 → h ≡ get_or rows 2 0 →
    k ≡ get_or rows 3 0 → head ≡ take h bodies → rest ≡ drop h bodies → l ≡ take k rest → M ≡ emit_of (call_text form n (run_in n a head l)) K →
    M ≡ emit_of (row_text form rows bodies) K
rowed form rows bodies head rest l n a h k K M e₀ e₁ e₂ e₃ e₄ e₅ e₆ m = rw (e₆, e₅, e₄, e₃, e₂, e₁, e₀) at m

-- ---- n calls, of which i are put, the rows and bodies of the others at hand
module _ (form : Form) (n i : ℕ) (rows bodies : List ℕ) (K : Laid) (table rest : List ℕ) (L : Laid)
    (done : emit_of (calls_text form (n - i) table rest) L ≡ emit_of (calls_text form n rows bodies) K) where
  pub calls_put : n ≤ i → L ≡ emit_of (calls_text form n rows bodies) K
  unfolding calls_text
  calls_put h = (let e : n - i ≡ 0 = omega arith in rw (e, emit_none) at done)

  pub next_call : i < n → (M : Laid) (size : ℕ) (t b : List ℕ) →
      M ≡ emit_of (row_text form table rest) L → size ≡ body_size table → t ≡ drop 4 table → b ≡ drop size rest →
      emit_of (calls_text form (n - (i + 1)) t b) M ≡ emit_of (calls_text form n rows bodies) K
  unfolding calls_text
  next_call h M size t b m f g e = rw (m, g, e, f) (let k : n - i ≡ suc (n - (i + 1)) = omega arith in rw (k, emit_append) at done)

pub ruleset calls = (calls_put, next_call)
