-- The loops over a log and a buffer, and a log in either form. Assumes nothing.
use Prim.Native.Nat.{ℕ, ◌+◌, ◌-◌, ◌≤◌, ◌<◌}
use native.Mathlib.Numerals.{add-one}
use native.Mathlib.Omega.{arith}
use mathlib.Core.Path.{◌≡◌, refl}
use mathlib.Core.List.{List, [], ◌∷◌, ◌++◌}
use lib.ListN.{length, get_or, take, drop, drop_of_length-le}
use lib.Seq.{take_all, drop-cons}
use borrow.Author.Tests.{lt-ltb, le-ltb, eq-eqb, ne_eqb}
use Rattle.numerals.specs.Numbers.{hex_of}
use Rattle.window.specs.Window.{Laid, emit_of}
use Rattle.window.proofs.Laid.{emit_append, emit_none, found}
use Rattle.lines.specs.Lines.{access_line, access_lines, log_text, bytes_text}
use Rattle.lines.specs.declared.Form.{Form}

pub ruleset tests = (lt-ltb, le-ltb, eq-eqb, ne_eqb)

-- ---- the entries of a log, those of `rest` still to be put where the text stands
no_entry_holds : (ws : List ℕ) → length ws ≤ 1 → access_lines ws ≡ []
unfolding access_lines
no_entry_holds [] h = refl
no_entry_holds (w ∷ []) h = refl
no_entry_holds (w ∷ v ∷ ws) h = absurd (omega arith)

first_entry : (ws : List ℕ) → 1 < length ws →
    access_lines ws ≡ access_line (get_or ws 0 0) (get_or ws 1 0) ++ access_lines (take (length ws - 2) (drop 2 ws))
unfolding access_lines
first_entry [] h = absurd (omega arith)
first_entry (w ∷ []) h = absurd (omega arith)
first_entry (w ∷ v ∷ ws) h = rw (take_all (length (w ∷ v ∷ ws) - 2) ws (omega arith))

module _ (log rest : List ℕ) (K L : Laid) (done : emit_of (access_lines rest) L ≡ emit_of (access_lines log) K) where
  pub entries_put : length rest ≤ 1 → L ≡ emit_of (access_lines log) K
  entries_put h = rw (no_entry_holds rest h, emit_none) at done

  pub next_entry : 1 < length rest → (M : Laid) → M ≡ emit_of (access_line (get_or rest 0 0) (get_or rest 1 0)) L →
      emit_of (access_lines (take (length rest - 2) (drop 2 rest))) M ≡ emit_of (access_lines log) K
  next_entry h M e = rw e (rw (first_entry rest h, emit_append) at done)

pub ruleset entries = (entries_put, next_entry)

-- ---- the bytes of a buffer, of which those before i are put
module _ (bytes : List ℕ) (i : ℕ) (K L : Laid) (done : emit_of (bytes_text (drop i bytes)) L ≡ emit_of (bytes_text bytes) K) where
  pub bytes_put_holds : length bytes ≤ i → L ≡ emit_of (bytes_text bytes) K
  unfolding bytes_text
  bytes_put_holds h = rw (drop_of_length-le bytes h, emit_none) at done

  pub next_byte : i < length bytes → (M : Laid) → M ≡ emit_of (hex_of 2 (get_or bytes i 0)) L →
      emit_of (bytes_text (drop (i + 1) bytes)) M ≡ emit_of (bytes_text bytes) K
  unfolding bytes_text
  next_byte h M e = rw (e, add-one) (rw (drop-cons bytes i 0 h, emit_append) at done)

pub ruleset buffer = (bytes_put_holds, next_byte)

-- ---- a log in the form that was found
pub in_form : (n : ℕ) (log : List ℕ) (f g : Form) (L M : Laid) → f ≡ g → M ≡ emit_of (log_text g n log) L → M ≡ emit_of (log_text f n log) L
in_form n log = found (λ (f : Form). log_text f n log)
