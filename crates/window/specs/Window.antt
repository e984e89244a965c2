-- A window on a text: the bytes of the text from some place on, as many as a slice holds. Assumes nothing.
use Rattle.std.specs.Prelude.{ℕ, ◌+◌, ◌-◌, Bool, cond, ◌&&◌, List, [], ◌∷◌, ◌++◌, eqb, leb, ltb, length, take, drop, set}
use Rattle.window.specs.declared.Cursor.{Cursor}

-- what a window `bytes` shows of the text t from its byte `from` on; the slice's other bytes are as they were
abbrev pub shown_of : ℕ → List ℕ → List ℕ → List ℕ
shown_of from t bytes = take (length bytes) (drop from t)

pub record Shown : Type 0 where
  pub count : ℕ
  pub bytes : List ℕ

unfoldable pub window_of : ℕ → List ℕ → List ℕ → Shown
window_of from t bytes =
    let s : List ℕ = shown_of from t bytes in
    record { count = length s; bytes = s ++ drop (length s) bytes }

abbrev pub as_shown : ℕ → List ℕ → Shown
as_shown n bytes = record { count = n; bytes = bytes }

-- ---- A text that is put into a window byte by byte: those before the window are left out, those after it too.
pub record Laid : Type 0 where
  pub skip : ℕ
  pub at : ℕ
  pub bytes : List ℕ

abbrev pub laid : Cursor → List ℕ → Laid
laid p bytes = record { skip = p.skip; at = p.at; bytes = bytes }

abbrev pub start_of : ℕ → Cursor
start_of from = record { skip = from; at = 0 }

abbrev pub full : Laid → Bool
full L = eqb L.skip 0 && leb (length L.bytes) L.at

unfoldable pub put_byte : ℕ → Laid → Laid
put_byte b L =
    cond (ltb 0 L.skip) (record { skip = L.skip - 1; at = L.at; bytes = L.bytes })
    (cond (ltb L.at (length L.bytes)) (record { skip = L.skip; at = L.at + 1; bytes = set L.bytes L.at b }) L)

unfoldable pub emit_of : List ℕ → Laid → Laid
emit_of [] L = L
emit_of (b ∷ t) L = emit_of t (put_byte b L)
