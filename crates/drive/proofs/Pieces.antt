-- What follows a piece is the rest of the run. Assumes nothing.
use Prim.Native.Nat.{ℕ, ◌+◌, ◌-◌, ◌*◌, ◌≤◌}
use native.Mathlib.Omega.{arith}
use mathlib.Core.Path.{◌≡◌, refl, sym}
use mathlib.Core.Bool.{true, false}
use mathlib.Core.List.{List, [], ◌∷◌, ◌++◌, append_assoc}
use lib.ListN.{length, take, drop, length-drop}
use lib.Seq.{take_all}
use Rattle.calls.proofs.Reached as come
use Rattle.calls.specs.Joined.{is_full, Reached, go_on, rest_from}
use Rattle.calls.specs.Run.{Entry, words_of}
use Rattle.calls.specs.declared.Description.{Description}
use Rattle.lines.specs.Lines.{access_line, access_lines, log_text}
use Rattle.lines.specs.declared.Form.{Form}
use Rattle.lines.specs.declared.Form.TheVariants.{Lines, Page}
use Rattle.page.proofs.Same.{entries, nothing}
use Rattle.page.specs.Page.{entry_lines, text_of, entries_text}
use Rattle.window.proofs.Laid.{emit_append}
use Rattle.window.specs.Window.{Laid}
use Rattle.drive.specs.Drive.{in_lines}

pub all_left : (u : ℕ) (l : List ℕ) → take (length l - u) (drop u l) ≡ drop u l
all_left u l = take_all (length l - u) (drop u l) (simp length-drop (omega arith))

-- ---- entries put after entries are put at once, in either form: m is the number after those of es
log_append : (form : Form) (n m : ℕ) (es : List Entry) (ws : List ℕ) → m ≡ n + length es →
    log_text form n (words_of es ++ ws) ≡ log_text form n (words_of es) ++ log_text form m ws
unfolding log_text access_lines
log_append Lines n m [] ws h = refl
log_append Lines n m (e ∷ es) ws h = rw (log_append Lines (n + 1) m es ws (omega arith)) (sym (append_assoc (access_line e.code e.value) (access_lines (words_of es)) (access_lines ws)))
log_append Page n m [] ws h = (let z : m ≡ n = omega arith in rw (nothing n, z))
log_append Page n m (e ∷ es) ws h =
    rw (entries n e.code e.value (words_of es ++ ws), entries n e.code e.value (words_of es), log_append Page (n + 1) m es ws (omega arith))
    (sym (append_assoc (text_of (entry_lines n e.code e.value)) (entries_text (n + 1) (words_of es)) (entries_text m ws)))

in_lines_holds : (form : Form) (w : ℕ) (L : Laid) (es fs : List Entry) →
    in_lines form (w + length es) (words_of fs) (in_lines form w (words_of es) L) ≡ in_lines form w (words_of es ++ words_of fs) L
in_lines_holds form w L es fs = rw (log_append form (w + 1) (w + length es + 1) es (words_of fs) (omega arith), emit_append (log_text form (w + 1) (words_of es)) (log_text form (w + length es + 1) (words_of fs)) L)

-- ---- the loop: a piece was made, n being left before it and m after it
module _ (form : Form) (d : Description) (ops l : List ℕ) (n m : ℕ) (F G : Reached Laid) (E : G ≡ go_on (in_lines form) d ops l 512 F) (one : n ≡ m + 1) where
  pub turn_used : F.advanced.used ≤ length l → G.advanced.used ≤ length l
  turn_used = come.used_in (in_lines form) d ops l F 512 (512 * n) (omega arith) G E

  pub turn_written : is_full G.advanced.report ≡ true → F.advanced.written + 512 * n ≤ 131072 →
      G.advanced.written + 512 * m ≤ 131072
  turn_written f h = omega (arith, come.all_written (in_lines form) d ops l F 512 (512 * n) (omega arith) G E f)

  module _ (W : Reached Laid) (full : is_full F.advanced.report ≡ true) (rest : rest_from (in_lines form) d ops l (512 * n) F ≡ W) where
    whole : go_on (in_lines form) d ops l (512 * n) F ≡ W
    whole = come.some_left (in_lines form) d ops l F W (512 * n) (omega arith) full rest

    pub turn_ends : is_full G.advanced.report ≡ false → G ≡ W
    turn_ends = come.ends_here (in_lines form) d ops l F 512 (512 * n) (omega arith) G E W whole

    pub turn_goes : is_full G.advanced.report ≡ true → rest_from (in_lines form) d ops l (512 * m) G ≡ W
    turn_goes f =
        come.goes_on (in_lines form) d ops l F 512 (512 * n) (omega arith) G E W whole
        (λ es fs h. in_lines_holds form F.advanced.written F.out es fs) f (512 * m) (omega arith)
