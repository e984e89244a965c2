-- Texts put into a window one after the other are one text, and what the window then holds is what it shows of it.
-- Assumes nothing.
use Prim.Native.Nat.{ℕ, zero, suc, ◌+◌, ◌-◌, ◌≤◌, ◌<◌}
use native.Mathlib.Nat.{add-zero, zero-add}
use native.Mathlib.Numerals.{add-one}
use native.Mathlib.Omega.{arith}
use mathlib.Core.Path.{◌≡◌, refl, sym, ap, ◌∙◌, subst⁻¹}
use mathlib.Core.Bool.{Bool, true, false, ◌&&◌}
use mathlib.Core.List.{List, [], ◌∷◌, ◌++◌}
use lib.Dec.{T, eqb, leb}
use lib.ListN.{length, get_or, take, drop, set, replicate, length-append, length-set, length-take, length-drop, drop_of_length-le}
use lib.Seq.{drop-cons, take-nil, sets, sets-eq, take-append_seam, length-take-le, drop-drop}
use borrow.Author.Tests.{eqb-true, leb-true, le-leb, lt-ltb, le-ltb}
use Rattle.window.specs.Window.{Laid, laid, start_of, full, put_byte, emit_of, Shown, shown_of, window_of, as_shown}

-- one text after the other
pub emit_append : (t u : List ℕ) (L : Laid) → emit_of (t ++ u) L ≡ emit_of u (emit_of t L)
unfolding emit_of
emit_append [] u L = refl
emit_append (b ∷ t) u L = emit_append t u (put_byte b L)

pub emit_none : (L : Laid) → emit_of [] L ≡ L
unfolding emit_of
emit_none L = refl

pub emit_one : (b : ℕ) (L : Laid) → emit_of (b ∷ []) L ≡ put_byte b L
unfolding emit_of
emit_one b L = refl

pub emit_first : (b : ℕ) (t : List ℕ) (L : Laid) → emit_of (b ∷ t) L ≡ emit_of t (put_byte b L)
unfolding emit_of
emit_first b t L = refl

-- one text more
pub then : (t u : List ℕ) (K L M : Laid) → L ≡ emit_of t K → M ≡ emit_of u L → M ≡ emit_of (t ++ u) K
then t u K L M e f = f ∙ ap (emit_of u) e ∙ sym (emit_append t u K)

-- the text of what was found to be y
pub found : {A : Type 0} (text : A → List ℕ) (x y : A) (L M : Laid) → x ≡ y → M ≡ emit_of (text y) L → M ≡ emit_of (text x) L
found {A = A} text x y L M e m = m ∙ ap (λ (z : A). emit_of (text z) L) (sym e)

-- ---- one byte
module _ (b skip at : ℕ) (bytes : List ℕ) where
  abbrev here : Laid
  here = record { skip = skip; at = at; bytes = bytes }

  pub left_out : 0 < skip → record { skip = skip - 1; at = at; bytes = bytes } ≡ put_byte b here
  unfolding put_byte
  left_out h = rw (lt-ltb 0 skip h)

  pub written : skip ≤ 0 → at < length bytes → record { skip = skip; at = at + 1; bytes = set bytes at b } ≡ put_byte b here
  unfolding put_byte
  written h l = rw (le-ltb 0 skip h, lt-ltb at (length bytes) l)

  pub no_room : skip ≤ 0 → length bytes ≤ at → here ≡ put_byte b here
  unfolding put_byte
  no_room h l = rw (le-ltb 0 skip h, le-ltb at (length bytes) l)

pub ruleset byte = (left_out, written, no_room)

-- a full window takes nothing more
both_true : (a b : Bool) → (a && b) ≡ true → (a ≡ true) × (b ≡ true)
both_true true b h = (refl, h)
both_true false b h = absurd (subst⁻¹ T h tt)

full_put : (b : ℕ) (L : Laid) → full L ≡ true → put_byte b L ≡ L
full_put b L h =
    let z = both_true (eqb L.skip 0) (leb (length L.bytes) L.at) h in
    sym (no_room b L.skip L.at L.bytes (omega (arith, eqb-true L.skip 0 z.0)) (leb-true (length L.bytes) L.at z.1))

pub full_emit : (t : List ℕ) (L : Laid) → full L ≡ true → emit_of t L ≡ L
unfolding emit_of
full_emit [] L h = refl
full_emit (b ∷ t) L h = ap (emit_of t) (full_put b L h) ∙ full_emit t L h

-- ---- a text t of which the bytes before i are put
module _ (t : List ℕ) (L : Laid) (i : ℕ) (M : Laid) (done : emit_of (drop i t) M ≡ emit_of t L) where
  pub all_put : length t ≤ i → M ≡ emit_of t L
  unfolding emit_of
  all_put h = rw (drop_of_length-le t h) at done

  pub next_put : i < length t → (b : ℕ) (N : Laid) → b ≡ get_or t i 0 → N ≡ put_byte b M → emit_of (drop (i + 1) t) N ≡ emit_of t L
  unfolding emit_of
  next_put h b N e f = rw (f, e, add-one) (rw (drop-cons t i 0 h) at done)

pub ruleset all = (all_put, next_put)

-- ---- a byte b repeated n times, of which i are put
module _ (b n i : ℕ) (L M : Laid) (done : emit_of (replicate (n - i) b) M ≡ emit_of (replicate n b) L) where
  pub all_repeated : n ≤ i → M ≡ emit_of (replicate n b) L
  unfolding emit_of
  all_repeated h = (let e : n - i ≡ 0 = omega arith in rw e at done)

  pub rest_left_out : (r : Bool) → r ≡ full M → r ≡ true → M ≡ emit_of (replicate n b) L
  rest_left_out r e h = sym (full_emit (replicate (n - i) b) M (sym e ∙ h)) ∙ done

  pub once_more : i < n → (N : Laid) → N ≡ put_byte b M → emit_of (replicate (n - (i + 1)) b) N ≡ emit_of (replicate n b) L
  unfolding emit_of
  once_more h N f = rw f (let e : n - i ≡ suc (n - (i + 1)) = omega arith in rw e at done)

pub ruleset repeated = (all_repeated, rest_left_out, once_more)

-- ---- what the window shows in the end
shows : (t : List ℕ) (at : ℕ) (bytes : List ℕ) (n : ℕ) → at + n ≡ length bytes →
    emit_of t (record { skip = 0; at = at; bytes = bytes }) ≡ record { skip = 0; at = at + length (take n t); bytes = sets bytes at (take n t) }
unfolding emit_of
shows [] at bytes n h = simp (take-nil, add-zero)
shows (b ∷ t) at bytes zero h = full_emit (b ∷ t) _ (le-leb (length bytes) at (omega arith)) ∙ simp add-zero
shows (b ∷ t) at bytes (suc n) h =
    ap (emit_of t) (sym (written b 0 at bytes (omega arith) (omega arith)))
    ∙ shows t (at + 1) (set bytes at b) n (simp length-set (omega arith))
    ∙ (let e : at + 1 ≡ suc at = omega arith in
    let f : suc at + length (take n t) ≡ at + suc (length (take n t)) = omega arith in
    rw (e, f))

-- of which as_shown is what a caller sees
pub windowed : (from : ℕ) (t bytes : List ℕ) (L : Laid) → L ≡ emit_of t (laid (start_of from) bytes) →
    as_shown L.at L.bytes ≡ window_of from t bytes
unfolding emit_of window_of
windowed from t bytes L e = ap (λ (M : Laid). as_shown M.at M.bytes) e ∙ go from t
  where
    go : (from : ℕ) (t : List ℕ) → (let M = emit_of t (laid (start_of from) bytes) in as_shown M.at M.bytes) ≡ window_of from t bytes
    go zero t =
        ap (λ (M : Laid). as_shown M.at M.bytes) (shows t 0 bytes (length bytes) (omega arith))
        ∙ (let s : List ℕ = take (length bytes) t in
        let h : 0 + length s ≤ length bytes = simp length-take (omega arith) in
        rw (sets-eq s bytes 0 h) (simp zero-add))
    go (suc from) [] = simp take-nil
    go (suc from) (b ∷ t) =
        ap (λ (M : Laid). as_shown (emit_of t M).at (emit_of t M).bytes) (sym (left_out b (suc from) 0 bytes (omega arith)))
        ∙ (let e : suc from - 1 ≡ from = omega arith in rw e (go from t))

-- ---- a window at the text's start, filled: its first bytes are the text's
module _ (t bytes : List ℕ) (n : ℕ) (bytes' : List ℕ) (E : as_shown n bytes' ≡ window_of 0 t bytes) where
  pub front : take n bytes' ≡ take (length bytes) t
  unfolding window_of
  front =
      rw (ap (λ (S : Shown). S.count) E, ap (λ (S : Shown). S.bytes) E)
      (take-append_seam (take (length bytes) t) _)

  pub room : n ≤ length bytes'
  unfolding window_of
  room = rw (ap (λ (S : Shown). S.count) E, ap (λ (S : Shown). S.bytes) E, length-append (take (length bytes) t) (drop (length (take (length bytes) t)) bytes)) (omega arith)

  pub counted : n ≡ length (take n bytes')
  counted = sym (length-take-le n bytes' room)

-- ---- windows in turn, each beginning where the last one ended: together they are the text, up to one with room to spare
pub in_turn : (from : ℕ) (t bytes : List ℕ) → drop from t ≡ shown_of from t bytes ++ drop (from + length (shown_of from t bytes)) t
in_turn from t bytes = sym (rw (← drop-drop (length (shown_of from t bytes)) from t) (go (drop from t) (length bytes)))
  where
    go : (s : List ℕ) (n : ℕ) → take n s ++ drop (length (take n s)) s ≡ s
    go [] zero = refl
    go [] (suc n) = refl
    go (b ∷ s) zero = refl
    go (b ∷ s) (suc n) = ap (λ (l : List ℕ). b ∷ l) (go s n)

pub last_one : (from : ℕ) (t bytes : List ℕ) → length (shown_of from t bytes) < length bytes → drop (from + length (shown_of from t bytes)) t ≡ []
last_one from t bytes h =
    let few = simp (length-take, length-drop) at h in
    let e : length t ≤ from + length (shown_of from t bytes) = simp (length-take, length-drop) (omega (arith, few)) in
    drop_of_length-le t e
