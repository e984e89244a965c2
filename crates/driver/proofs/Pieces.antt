-- The pieces of a call, of either kind: how many there are, where they lie, and the cursor at one. Assumes nothing.
use Prim.Native.Nat.{ℕ, zero, suc, ◌+◌, ◌-◌, ◌≤◌, ◌<◌, min, max}
use native.Mathlib.Numerals.{add-one}
use native.Mathlib.Omega.{arith}
use borrow.Author.Tests.{ne_eqb, lt-ltb, le-ltb}
use mathlib.Core.Path.{◌≡◌, sym, ap, ◌∙◌}
use mathlib.Core.Bool.{true, false, cond, not, ◌||◌}
use mathlib.Core.List.{List, [], ◌∷◌}
use lib.Dec.{eqb, ltb, ltb→lt, nltb→le}
use lib.ListN.{length, get_or}
use Rattle.fields.proofs.Laws.{get_lt}
use Rattle.calls.proofs.AlreadyCut.{list_few}
use Rattle.calls.proofs.Every.{every}
use Rattle.calls.proofs.Fit.{Fit}
use Rattle.calls.proofs.Logic.{both, implies, is_true, is_false}
use Rattle.calls.proofs.Places.{sizes_for}
use Rattle.calls.specs.AlreadyCut.{sizes}
use Rattle.calls.specs.Calls.{is_call, is_kind, transaction, manual, manual_write}
use Rattle.calls.specs.Pieces.{Piece, operation_length, list_pieces, transfer_pieces, pieces_for, piece_at, start_from, most_for, view_at}
use Rattle.calls.specs.Refusals.{total}
use Rattle.calls.specs.declared.Call.{Call}
use Rattle.calls.specs.declared.View.{View}
use Rattle.driver.proofs.Positions.{position_next, position_at, position_operation, position_there, nonempty-is, list-view-is}
use Rattle.driver.proofs.Transfers.{few}
use Rattle.driver.specs.Views.{position, position_of, op_at, goes_on, cursor_by, position_after, cursor_at}
use Rattle.driver.specs.declared.request.Request.{Request}
use Rattle.driver.specs.declared.view.Cursor.{Cursor}
use Rattle.driver.specs.declared.view.Position.{Position}

-- what a request is lent fits its call
pub fit_of : (r : Request) → Fit r.call r.operations.now r.size
fit_of r = record { size = r.fits; few = r.few; sum = r.sum }

start_inside : (at : ℕ) (ps : List Piece) (i : ℕ) → start_from at ps i + (piece_at ps i).size ≤ at + sizes ps
start_inside at [] i = omega arith
start_inside at (p ∷ ps) zero = omega arith
start_inside at (p ∷ ps) (suc i) = omega (arith, start_inside (at + p.size) ps i)

-- a transaction is no manual write, so its views have no `most`
no_write : (c : Call) → transaction c ≡ true → manual_write c ≡ false
unfolding is_call is_kind manual
no_write c t =
    is_false (manual_write c) (implies (transaction c) (not (manual_write c)) (every (λ x. not (manual_write x) || not (transaction x)) tt c) (rw t tt))

module _ (c : Call) (ops : List ℕ) (n : ℕ) where
  pub of_list : transaction c ≡ true → pieces_for c ops n ≡ list_pieces ops
  unfolding pieces_for
  of_list t = rw t

  pub of_transfer : transaction c ≡ false → pieces_for c ops n ≡ transfer_pieces c n
  unfolding pieces_for
  of_transfer t = rw t

  module _ (f : Fit c ops n) where
    -- no piece reaches past the buffer, nor are there more of them than sixteen bits count
    pub inside : (i : ℕ) → start_from 0 (pieces_for c ops n) i + (piece_at (pieces_for c ops n) i).size ≤ n
    inside i = omega (arith, start_inside 0 (pieces_for c ops n) i, sizes_for c ops n f.sum)

    pub view_small : (v : View) (i : ℕ) → v ≡ view_at (pieces_for c ops n) (most_for c n) i → v.size ≤ 65535
    view_small v i e = rw e (omega (arith, inside i, f.size))

    pub few_operations : transaction c ≡ true → length ops ≤ 64
    few_operations h = f.few (rw h tt)

    pub small_total : transaction c ≡ true → total ops ≤ 65535
    small_total h = omega (arith, f.sum (rw h tt), f.size)

    pub few_pieces : length (pieces_for c ops n) ≤ 65535
    few_pieces =
        both (transaction c)
        (λ t. rw (of_list (is_true (transaction c) t)) (omega (arith, list_few ops, f.few t, f.sum t, f.size)))
        (λ t. rw (of_transfer (is_false (transaction c) t)) (few c n f.size))

    -- the numbers of a cursor are small
    pub cursor_small : transaction c ≡ true → (p : Cursor) (i : ℕ) → i ≤ 65535 → p ≡ cursor_at c ops n i →
        (p.view.start + p.view.size ≤ 65535) × (p.operation ≤ 65535) × (p.at ≤ 65535)
    cursor_small t p i l e =
        rw (e, t)
        (omega (arith, inside i, f.size, position_operation ops i, position_at ops i, get_lt (get_or ops (position_of ops i).operation 0) operation_length))

  pub nonempty_list : transaction c ≡ true → ltb 0 (length ops) ≡ ltb 0 (length (pieces_for c ops n))
  nonempty_list t = rw (of_list t) (sym (nonempty-is ops 0))

  -- ---- a transaction
  module _ (t : transaction c ≡ true) where
    pub cursor-is : (i : ℕ) → cursor_by ops (position_of ops i) ≡ cursor_at c ops n i
    cursor-is i = rw (of_list t, t, no_write c t, list-view-is ops i)

    -- the next one lies where the code says
    after_is : (i : ℕ) → position_after ops (cursor_at c ops n i) ≡ position_of ops (i + 1)
    after_is i =
        let e : i + 1 ≡ suc i = omega arith in
        ap (position_after ops) (sym (cursor-is i)) ∙ go (position_of ops i) ∙ sym (ap (position_of ops) e ∙ position_next ops i)
      where
        go : (u : Position) → position_after ops (cursor_by ops u) ≡
            cond (goes_on ops u.operation u.at) (position u.operation (u.at + 255) (u.start + 255))
            (position (suc u.operation) 0 (u.start + ((op_at ops u.operation).size - u.at)))
        go u =
            both (goes_on ops u.operation u.at)
            (λ h.
            let l : u.at + 255 < (op_at ops u.operation).size = ltb→lt (u.at + 255) (op_at ops u.operation).size h in
            let e : min 255 ((op_at ops u.operation).size - u.at) ≡ 255 = omega arith in
            rw (is_true (goes_on ops u.operation u.at) h, e))
            (λ h.
            let l : (op_at ops u.operation).size ≤ u.at + 255 = nltb→le (u.at + 255) (op_at ops u.operation).size h in
            let e : min 255 ((op_at ops u.operation).size - u.at) ≡ (op_at ops u.operation).size - u.at = omega arith in
            rw (is_false (goes_on ops u.operation u.at) h, e, add-one))

    pub after_at : (p : Cursor) (i j : ℕ) → p ≡ cursor_at c ops n i → j ≡ i + 1 → position_after ops p ≡ position_of ops j
    after_at p i j e f = rw (e, f) (after_is i)

  -- ---- a target transfer
  pub transfer_cursor : transaction c ≡ false → (v : View) (i : ℕ) → v ≡ view_at (transfer_pieces c n) (most_for c n) i →
      record { view = v; operation = 0; at = 0 } ≡ cursor_at c ops n i
  transfer_cursor t v i e = rw (e, of_transfer t, t)

-- ---- a piece is there, or the first of none is asked for

pub first_there : (i k : ℕ) → (eqb i 0 || ltb i k) ≡ ltb i (max 1 k)
first_there zero k = rw (lt-ltb 0 (max 1 k) (omega arith))
first_there (suc i) k =
    rw (ne_eqb (suc i) 0 (λ e. omega arith))
    (both (ltb (suc i) k)
    (λ h. let l : suc i < k = ltb→lt (suc i) k h in rw (lt-ltb (suc i) k l, lt-ltb (suc i) (max 1 k) (omega arith)))
    (λ h. let l : k ≤ suc i = nltb→le (suc i) k h in rw (le-ltb (suc i) k l, le-ltb (suc i) (max 1 k) (omega arith))))

pub list_there : (c : Call) (ops : List ℕ) (n i k : ℕ) → transaction c ≡ true → k ≡ (cursor_at c ops n i).operation →
    (eqb i 0 || ltb k (length ops)) ≡ ltb i (max 1 (length (pieces_for c ops n)))
list_there c ops n i k t e =
    rw (e, t, of_list c ops n t, ← position_there ops i) (first_there i (length (list_pieces ops)))
