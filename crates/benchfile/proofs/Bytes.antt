-- The bytes of a buffer, put one after the other. Assumes nothing.
use Prim.Native.Nat.{ℕ, zero, suc, ◌+◌, ◌%◌, ◌≤◌, ◌<◌}
use native.Mathlib.Numerals.{add-one}
use mathlib.Core.Path.{◌≡◌, refl, ap}
use mathlib.Core.Bool.{Bool, true, false, ◌||◌}
use mathlib.Core.List.{List, [], ◌∷◌}
use lib.Dec.{eqb}
use lib.ListN.{length, get_or, take, drop, replicate, drop_of_length-le}
use lib.Seq.{drop-cons}
use borrow.Author.Tests.{eq-eqb, ne_eqb}
use Rattle.calls.specs.Pieces.{piece_of}
use Rattle.window.specs.Window.{Laid, put_byte, emit_of}
use Rattle.window.proofs.Laid.{emit_append}
use Rattle.benchfile.specs.Calls.{low_bytes, write_size, operation_bytes, operations_bytes, list_in, after_list, whole_buffer}

-- the bytes of a part of the words are that part of their bytes
bytes_drop : (n : ℕ) (ws : List ℕ) → drop n (low_bytes ws) ≡ low_bytes (drop n ws)
bytes_drop zero ws = refl
bytes_drop (suc n) [] = refl
bytes_drop (suc n) (w ∷ ws) = bytes_drop n ws

pub bytes_take : (n : ℕ) (ws : List ℕ) → take n (low_bytes ws) ≡ low_bytes (take n ws)
bytes_take zero ws = refl
bytes_take (suc n) [] = refl
bytes_take (suc n) (w ∷ ws) = ap (λ (s : List ℕ). w % 256 ∷ s) (bytes_take n ws)

-- ---- words of which those before i are put
module _ (ws : List ℕ) (L : Laid) (i : ℕ) (M : Laid) (done : emit_of (low_bytes (drop i ws)) M ≡ emit_of (low_bytes ws) L) where
  pub all_bytes : length ws ≤ i → M ≡ emit_of (low_bytes ws) L
  unfolding emit_of
  all_bytes h = rw (drop_of_length-le ws h) at done

  pub next_byte : i < length ws → (N : Laid) → N ≡ put_byte (get_or ws i 0 % 256) M →
      emit_of (low_bytes (drop (i + 1) ws)) N ≡ emit_of (low_bytes ws) L
  unfolding emit_of
  next_byte h N f = rw (f, add-one) (rw (drop-cons ws i 0 h) at done)

pub ruleset words_put = (all_bytes, next_byte)

-- ---- one operation
module _ (o : ℕ) (ws : List ℕ) (L M : Laid) (r : Bool) (size : ℕ)
    (is : r ≡ (piece_of o).reads) (long : size ≡ (piece_of o).size) where
  pub read_put : r ≡ true → M ≡ emit_of (replicate size 0) L → M ≡ emit_of (operation_bytes o (low_bytes ws)) L
  read_put h e = rw (← is, h, ← long) e

  pub write_put : r ≡ false → (part : List ℕ) → part ≡ take size ws → M ≡ emit_of (low_bytes part) L →
      M ≡ emit_of (operation_bytes o (low_bytes ws)) L
  write_put h part f e = rw (← is, h, ← long, bytes_take, ← f) e

pub ruleset operation_put = (read_put, write_put)

-- ---- operations of which those before i are put, and `left` is what they left of the words
module _ (ops ws : List ℕ) (L : Laid) (i : ℕ) (left : List ℕ) (M : Laid)
    (done : emit_of (operations_bytes (drop i ops) (low_bytes left)) M ≡ emit_of (operations_bytes ops (low_bytes ws)) L) where
  pub all_operations : length ops ≤ i → M ≡ emit_of (operations_bytes ops (low_bytes ws)) L
  unfolding emit_of
  all_operations h = rw (drop_of_length-le ops h) at done

  pub next_operation : i < length ops → (N : Laid) (size : ℕ) (others : List ℕ) →
      N ≡ emit_of (operation_bytes (get_or ops i 0) (low_bytes left)) M →
      size ≡ write_size (get_or ops i 0) → others ≡ drop size left →
      emit_of (operations_bytes (drop (i + 1) ops) (low_bytes others)) N ≡ emit_of (operations_bytes ops (low_bytes ws)) L
  next_operation some N size others f e g =
      rw (f, g, e, add-one, ← bytes_drop, ← emit_append) (rw (drop-cons ops i 0 some) at done)

pub ruleset operations_put = (all_operations, next_operation)

-- ---- the whole buffer, by the call
module _ (n a : ℕ) (head : List ℕ) (L M : Laid) where
  abbrev Whole : Type 0
  Whole = M ≡ emit_of (whole_buffer n a head) L

  pub list_whole : n ≡ 7 → (ops ws : List ℕ) → ops ≡ list_in head → ws ≡ after_list head →
      M ≡ emit_of (operations_bytes ops (low_bytes ws)) L → Whole
  unfolding whole_buffer
  list_whole h ops ws f g e = rw (eq-eqb n 7 h, ← f, ← g) e

  module _ (other : n ≡ 7 → ⊥) where
    pub zeros_whole : (eqb n 9 || eqb n 11) ≡ true → M ≡ emit_of (replicate a 0) L → Whole
    unfolding whole_buffer
    zeros_whole h e = rw (ne_eqb n 7 other, h) e

    pub bytes_whole : (eqb n 9 || eqb n 11) ≡ false → (eqb n 10 || eqb n 12) ≡ true → M ≡ emit_of (low_bytes head) L → Whole
    unfolding whole_buffer
    bytes_whole h l e = rw (ne_eqb n 7 other, h, l) e

    pub none_whole : (eqb n 9 || eqb n 11) ≡ false → (eqb n 10 || eqb n 12) ≡ false → M ≡ L → Whole
    unfolding whole_buffer emit_of
    none_whole h l e = rw (ne_eqb n 7 other, h, l) e

pub ruleset whole_put = (list_whole, zeros_whole, bytes_whole, none_whole)
