-- A piece of an advance over bytes, and what follows it. Assumes nothing.
use Prim.Native.Nat.{ℕ, zero, suc, ◌+◌, ◌-◌, ◌*◌, ◌/◌, ◌≤◌, ◌<◌, min}
use native.Mathlib.Omega.{arith}
use mathlib.Core.Path.{◌≡◌, refl, sym, ◌∙◌}
use mathlib.Core.Bool.{true, false, cond}
use mathlib.Core.List.{List, ◌++◌}
use lib.ListN.{length, take, drop}
use lib.Seq.{length-take-le}
use Rattle.calls.proofs.Reached as come
use Rattle.calls.proofs.Cut.{two_each}
use Rattle.calls.proofs.Logic.{by_test, both, is_true, is_false}
use Rattle.calls.specs.Joined.{is_full, Reached, as_reached, not_yet, reached_by, go_on, rest_from}
use Rattle.calls.specs.Run.{Entry, words_of, run_of, Final, final_of}
use Rattle.calls.specs.declared.Advanced.{Advanced}
use Rattle.calls.specs.declared.Description.{Description}
use Rattle.calls.specs.declared.SavedCall.{SavedCall}
use Rattle.words.proofs.Turns.{in_words, decoded_words, put_twice}
use Rattle.words.specs.Words.{words_in, as_decoded, decoded_of}
use Rattle.advance_bytes.proofs.Enough.{enough_answers}
use Rattle.advance_bytes.specs.Pieces.{in_bytes}

-- ---- an answer for each place is enough
pub read_through : (d : Description) (ops : List ℕ) (s : SavedCall) (b answers window log : List ℕ) (u n : ℕ) (window' : List ℕ) (F : Final) →
    length log / 2 ≤ length window → as_decoded n window' ≡ decoded_of u answers window → F ≡ final_of d ops s b (take n window') log →
    F ≡ final_of d ops s b (drop u (words_in answers)) log
read_through d ops s b answers window log u n window' F fit decoded e =
    e ∙ rw (
      decoded_words u answers window n window' decoded,
      enough_answers d ops (length log / 2) (length window) s b (drop u (words_in answers)) fit,
    )

-- ---- k places are lent of a piece's entries
module _ (entries : List ℕ) (k m : ℕ) (e : k ≡ min (length entries / 2) m) where
  pub places_counted : 2 * k ≡ length (take (2 * k) entries)
  places_counted = sym (length-take-le (2 * k) entries (omega (arith, e)))

  pub places_lent : length (take (2 * k) entries) / 2 ≡ min (length entries / 2) m
  places_lent = rw (← places_counted) (omega (arith, e))

-- ---- entries put after entries are put at once, where there is room
in_bytes_holds : (w n : ℕ) (log : List ℕ) → 8 * (w + n) ≤ length log → (es fs : List Entry) → length es + length fs ≤ n →
    in_bytes (w + length es) (words_of fs) (in_bytes w (words_of es) log) ≡ in_bytes w (words_of es ++ words_of fs) log
in_bytes_holds w n log h es fs le =
    let r = two_each es in
    let s = two_each fs in
    let e : 2 * (w + length es) ≡ 2 * w + length (words_of es) = omega arith in
    rw e (put_twice (2 * w) (words_of es) (words_of fs) log (omega arith))

-- ---- after a piece that is not full nothing is left
pub no_rest : (d : Description) (ops l : List ℕ) (G : Reached (List ℕ)) → is_full G.advanced.report ≡ false → (m : ℕ) →
    rest_from in_bytes d ops l m G ≡ G
no_rest d ops l G f zero = refl
no_rest d ops l G f (suc m) = rw f

-- ---- a piece over as many as K of the n places that the log has left after t
module _ (d : Description) (ops answers : List ℕ) (t : Advanced) (b log : List ℕ) (t' : Advanced) (b' log' : List ℕ) (K n : ℕ)
    (E : as_reached t' b' log' ≡ go_on in_bytes d ops (words_in answers) (min K (length log / 8 - t.written)) (as_reached t b log))
    (left : n ≡ length log / 8 - t.written) (kept : length log' ≡ length log) (inside : t.written ≤ length log / 8) where
  abbrev F : Reached (List ℕ)
  F = as_reached t b log

  abbrev G : Reached (List ℕ)
  G = as_reached t' b' log'

  came : G ≡ go_on in_bytes d ops (words_in answers) (min K n) F
  came = E ∙ rw (← left)

  pub turn_used : t.used ≤ length answers / 4 → t'.used ≤ length answers / 4
  turn_used h =
      let i = in_words answers in
      omega (arith, come.used_in in_bytes d ops (words_in answers) F (min K n) n (omega arith) G came (omega arith))

  pub turn_written : t'.written ≤ length log' / 8
  turn_written = rw kept (omega (arith, come.written_in in_bytes d ops (words_in answers) F (min K n) n (omega arith) G came))

  pub turn_less : 0 < K → 0 < n → is_full t'.report ≡ true → length log' / 8 - t'.written < n
  turn_less k h f =
      rw kept (omega (arith, come.all_written in_bytes d ops (words_in answers) F (min K n) n (omega arith) G came f))

  module _ (W : Reached (List ℕ)) (whole : go_on in_bytes d ops (words_in answers) n F ≡ W) where
    pub turn_ends : is_full t'.report ≡ false → G ≡ W
    turn_ends = come.ends_here in_bytes d ops (words_in answers) F (min K n) n (omega arith) G came W whole

    pub turn_goes : is_full t'.report ≡ true → rest_from in_bytes d ops (words_in answers) (length log' / 8 - t'.written) G ≡ W
    turn_goes f =
        let all = come.all_written in_bytes d ops (words_in answers) F (min K n) n (omega arith) G came f in
        come.goes_on in_bytes d ops (words_in answers) F (min K n) n (omega arith) G came W whole
        (in_bytes_holds t.written n log (omega arith)) f (length log' / 8 - t'.written) (rw kept (omega arith))

    -- either way the rest comes to W
    pub turn_left : rest_from in_bytes d ops (words_in answers) (length log' / 8 - t'.written) G ≡ W
    turn_left =
        both (is_full t'.report) (λ h. turn_goes (is_true (is_full t'.report) h))
        (λ h. let f = is_false (is_full t'.report) h in no_rest d ops (words_in answers) G f (length log' / 8 - t'.written) ∙ turn_ends f)

  pub turn_smaller : 0 < K → 0 < n → cond (is_full t'.report) (1 + (length log' / 8 - t'.written)) 0 < 1 + n
  turn_smaller k h =
      by_test (λ (m : ℕ). m < 1 + n) (is_full t'.report) (λ f. omega (arith, turn_less k h (is_true (is_full t'.report) f))) (λ f. omega arith)

-- the first piece is made of all places
pub first_whole : (d : Description) (ops l : List ℕ) (s : SavedCall) (b log : List ℕ) →
    go_on in_bytes d ops l (length log / 8 - 0) (as_reached (not_yet s) b log) ≡ reached_by in_bytes (run_of d ops (length log / 8) s b l) log
first_whole d ops l s b log =
    let e : length log / 8 - 0 ≡ length log / 8 = omega arith in
    rw e (come.at_first in_bytes (run_of d ops (length log / 8) s b l) s b log)
