-- What every call does to the caller's bytes, for every order of flags: what goes out, and what comes in.
-- Assumes nothing.
use Prim.Native.Nat.{ℕ, zero, suc, ◌+◌, ◌-◌, ◌≤◌}
use native.Mathlib.Omega.{arith}
use mathlib.Core.Path.{◌≡◌, refl, sym, ap, ap₂, ◌∙◌}
use mathlib.Core.Bool.{Bool, true, false, cond, not, ◌||◌, beq}
use mathlib.Core.List.{List, [], ◌∷◌, ◌++◌, append-nil}
use lib.Dec.{T}
use lib.ListN.{length, take, drop, length-append, replicate, drop_of_length-le}
use lib.Seq.{take-nil}
use Rattle.calls.specs.Bytes.{range, places_from, bytes_at, caller_bytes, read_places, BytesOut, BytesIn}
use Rattle.calls.specs.Calls.{Request, transaction, receives, transmits}
use Rattle.calls.specs.Pieces.{pieces_of}
use Rattle.calls.specs.Refusals.{total}
use Rattle.calls.specs.Run.{Uncut, uncut_of, put_out, taken_in}
use Rattle.calls.specs.Steps.{begin_of}
use Rattle.calls.proofs.Logic.{both}
use Rattle.calls.proofs.Places.{is_true, is_false, store_at, store_length, store_other, store_there, rising_all, transfer_places, bytes_all}
use Rattle.calls.proofs.Bytes.{not_transmits, no_filling, ahead_of, Moves, whole, front_of, run_moves, run_done}

-- ---- The places of a call's pieces are those that document 01 names

places : (q : Request) (w : Bool) →
    places_from w 0 (pieces_of q) ≡
    cond (transaction q.call) (places_from w 0 (pieces_of q)) (cond (cond w (receives q.call) (transmits q.call)) (range 0 q.size) [])
places q w =
    both (transaction q.call) (λ x. rw (is_true (transaction q.call) x)) (λ n.
    rw (is_false (transaction q.call) n)
    (transfer_places q w n ∙ way w (receives q.call) (transmits q.call) (range 0 q.size) (not_transmits q)))
  where
    way : (w r t : Bool) (ks : List ℕ) → (T r → T (not t)) →
        cond (r || t) (cond (beq r w) ks []) [] ≡ cond (cond w r t) ks []
    way true true t ks h = refl
    way true false true ks h = refl
    way true false false ks h = refl
    way false true true ks h = absurd (h tt)
    way false true false ks h = refl
    way false false true ks h = refl
    way false false false ks h = refl

caller : (q : Request) (b : List ℕ) → q.size ≡ length b → bytes_at b (places_from false 0 (pieces_of q)) ≡ caller_bytes q b
caller q b z = ap (bytes_at b) (places q false) ∙ go (transaction q.call) (transmits q.call) (places_from false 0 (pieces_of q))
  where
    go : (x t : Bool) (ks : List ℕ) →
        bytes_at b (cond x ks (cond t (range 0 q.size) [])) ≡ cond x (bytes_at b ks) (cond t b [])
    go true t ks = refl
    go false true ks = rw z (bytes_all b)
    go false false ks = refl

-- ---- Lists

first_part : (xs ys own : List ℕ) (m : ℕ) → xs ++ ys ≡ own ++ replicate m 0 →
    xs ≡ take (length xs) own ++ replicate (length xs - length own) 0
first_part [] ys own m e = let z : 0 - length own ≡ 0 = omega arith in rw z
first_part (x ∷ xs) ys [] zero e = absurd (omega (arith, ap length e))
first_part (x ∷ xs) ys [] (suc m) e =
    let h : x ≡ 0 = cc in
    let i : xs ++ ys ≡ replicate m 0 = cc in
    let n : suc (length xs) - 0 ≡ suc (length xs - 0) = omega arith in
    rw n (ap₂ ◌∷◌ h (first_part xs ys [] m i ∙ rw take-nil))
first_part (x ∷ xs) ys (o ∷ own) m e =
    let h : x ≡ o = cc in
    let i : xs ++ ys ≡ own ++ replicate m 0 = cc in
    let n : suc (length xs) - suc (length own) ≡ length xs - length own = omega arith in
    rw n (ap₂ ◌∷◌ h (first_part xs ys own m i))

length_bytes : (b ks : List ℕ) → length (bytes_at b ks) ≡ length ks
length_bytes b [] = refl
length_bytes b (k ∷ ks) = ap suc (length_bytes b ks)

-- ---- The theorems

module _ (q : Request) (k : ℕ) (b l : List ℕ) (z : q.size ≡ length b) where
  abbrev U : Uncut
  U = uncut_of q k (begin_of q) b l

  moves : Moves q (whole q b) (front_of q U.saved U.buffer) (put_out U.log) (taken_in U.log)
  moves = run_moves q k b l

  abbrev rest : List ℕ
  rest = bytes_at U.buffer (ahead_of false q U.saved)

  out_then_rest : put_out U.log ++ rest ≡ caller_bytes q b ++ replicate moves.zeros 0
  out_then_rest = rw (← caller q b z) moves.puts

  without_zeros : T (not (transmits q.call)) → put_out U.log ++ rest ≡ caller_bytes q b
  without_zeros n = out_then_rest ∙ rw (moves.filling n, append-nil)

  pub bytes_out : BytesOut q b U
  bytes_out = record {
    in_order = first_part (put_out U.log) rest (caller_bytes q b) moves.zeros out_then_rest;
    no_zeros = λ n. omega (arith, ap length (without_zeros n), length-append (put_out U.log) rest);
    done = λ x n e. sym (append-nil _) ∙ (rw (run_done q k b l x n e false) at (without_zeros (no_filling q x)));
  }

  buffer-is : U.buffer ≡ store_at b (read_places q) (taken_in U.log)
  buffer-is =
      sym (rw append-nil at (moves.takes [])) ∙ ap (λ (ks : List ℕ). store_at b ks (taken_in U.log)) (places q true)

  in_then_rest : length (taken_in U.log) + length (ahead_of true q U.saved) ≡ length (read_places q)
  in_then_rest = moves.count ∙ ap length (places q true)

  pub bytes_in : (T (transaction q.call) → total q.operations ≡ q.size) → BytesIn q b U
  bytes_in t = record {
    in_order = stored;
    others = λ i h. rw buffer-is (store_other b (read_places q) (taken_in U.log) i h);
    same_length = rw buffer-is (store_length b (read_places q) (taken_in U.log));
    done = λ x n e.
        let h : length (bytes_at b (read_places q)) ≤ length (taken_in U.log) =
        omega (arith, in_then_rest, ap length (run_done q k b l x n e true), length_bytes b (read_places q)) in
        stored ∙ rw (drop_of_length-le (bytes_at b (read_places q)) h, append-nil);
  }
    where
      stored : bytes_at U.buffer (read_places q) ≡
          taken_in U.log ++ drop (length (taken_in U.log)) (bytes_at b (read_places q))
      stored =
          rw buffer-is (store_there 0 b (read_places q) (taken_in U.log)
          (rw (places q true) at (rising_all q true (length b) z t)) (omega (arith, in_then_rest)))
