-- One turn of the loop of advance is one access of the definition: what is still to come, put after what was done, is the
-- whole advance. Assumes nothing.
use Rattle.std.specs.Prelude.{Option, Some, None, Result, Ok, Err}
use Prim.Native.Nat.{ℕ, zero, suc, ◌+◌, ◌-◌, ◌*◌, ◌/◌, ◌<◌, ◌≤◌}
use native.Mathlib.Nat.{add-zero, zero-add, sub-zero}
use native.Mathlib.Numerals.{add-one}
use native.Mathlib.Omega.{arith}
use mathlib.Core.Path.{◌≡◌, refl, sym, ap, ◌∙◌, subst⁻¹}
use mathlib.Core.Bool.{Bool, true, false, cond}
use mathlib.Core.List.{List, [], ◌∷◌}
use lib.Dec.{T, ltb}
use lib.ListN.{length, get_or, set, drop, drop_of_length-le}
use lib.Seq.{sets, sets-eq, drop-cons}
use borrow.Author.Tests.{ltb-true, ltb-false}
use Rattle.registers.specs.declared.Register.TheVariants.{Rxdr}
use Rattle.calls.proofs.Accepted.{Known, known_after}
use Rattle.calls.proofs.Along.{no_access}
use Rattle.calls.proofs.Cut.{two_each}
use Rattle.calls.proofs.Logic.{both, is_true}
use Rattle.calls.specs.Calls.{Request}
use Rattle.calls.specs.Pieces.{view_of}
use Rattle.calls.specs.Run.{Entry, words_of, read_entry, write_entry, byte_of, Run, stops, turn_of as run_turn, advance_from, Final, final_by, as_final}
use Rattle.calls.specs.Steps.{access_of, after_in, after_of, same_step}
use Rattle.calls.specs.declared.Access.{Access}
use Rattle.calls.specs.declared.Access.TheVariants.{Read, Take, Write, Nothing}
use Rattle.calls.specs.declared.Call.{Call}
use Rattle.calls.specs.declared.Description.{Description}
use Rattle.calls.specs.declared.Report.{Report}
use Rattle.calls.specs.declared.Report.TheVariants.{Over, Full}
use Rattle.calls.specs.declared.SavedCall.{SavedCall}
use Rattle.calls.specs.declared.Step.TheVariants.{Ended}
use Rattle.calls.specs.declared.View.{View}
use Rattle.driver.specs.Turn.{Left, left, made_by, made_of, turned, after_made, turn_by, turn_of, moved_by, Quickly}
use Rattle.driver.specs.declared.quick.Quick.{Quick}
use Rattle.driver.specs.declared.run.Made.{Made}
use Rattle.driver.specs.declared.run.Turned.{Turned}

-- the run R after u answers and w entries, its words in the log from `at` on
abbrev pub finish : List ℕ → ℕ → ℕ → ℕ → Run → Final
finish log at u w R =
    record {
      advanced = record { used = u + R.used; written = w + length R.entries; saved = R.saved; report = R.report };
      buffer = R.buffer;
      log = sets log at (words_of R.entries);
    }

-- what is still to come after w of p accesses, put after what was done
abbrev pub to_come : Request → List ℕ → ℕ → List ℕ → List ℕ → SavedCall → ℕ → ℕ → Final
to_come q l p b log s u w = finish log (2 * w) u w (advance_from q (p - w) s b (drop u l))

-- an advance makes no more entries than it has places
within_turn : (q : Request) (n : ℕ) (s : SavedCall) (b : List ℕ) →
    ((s : SavedCall) (b l : List ℕ) → length (advance_from q n s b l).entries ≤ n) →
    (l : List ℕ) (x : Access) → length (run_turn (advance_from q n) q s b l x).entries ≤ suc n
within_turn q n s b ih l Nothing = omega arith
within_turn q n s b ih l (Write r v) = omega (arith, ih (after_of q s 0) b l)
within_turn q n s b ih [] (Read r) = omega arith
within_turn q n s b ih (a ∷ l) (Read r) = omega (arith, ih (after_of q s a) b l)
within_turn q n s b ih [] (Take i) = omega arith
within_turn q n s b ih (a ∷ l) (Take i) = omega (arith, ih (after_of q s a) (set b i (byte_of a)) l)

within : (q : Request) (n : ℕ) (s : SavedCall) (b l : List ℕ) → length (advance_from q n s b l).entries ≤ n
unfolding advance_from
within q zero s b l = omega arith
within q (suc n) s b l = within_turn q n s b (within q n) l (access_of q b s)

-- so its words fit, and with nothing done before them they are the log as advance leaves it
pub whole : (q : Request) (s : SavedCall) (b l log : List ℕ) →
    to_come q l (length log / 2) b log s 0 0 ≡ final_by log (advance_from q (length log / 2) s b l)
whole q s b l log =
    let R : Run = advance_from q (length log / 2) s b l in
    let fits : 0 + length (words_of R.entries) ≤ length log = omega (arith, two_each R.entries, within q (length log / 2) s b l) in
    rw (sub-zero, sets-eq (words_of R.entries) log 0 fits) (simp zero-add)

more : (log : List ℕ) (at u u' w : ℕ) (e : Entry) (k : ℕ) (R : Run) → u + k ≡ u' + R.used →
    finish log at u w (record { report = R.report; saved = R.saved; buffer = R.buffer; used = k; entries = e ∷ R.entries })
    ≡ finish (set (set log at e.code) (at + 1) e.value) (at + 2) u' (w + 1) R
more log at u u' w e k R m =
    let p : at + 1 ≡ suc at = omega arith in
    let q : at + 2 ≡ suc (suc at) = omega arith in
    let n : w + 1 + length R.entries ≡ w + suc (length R.entries) = omega arith in
    rw (p, q, n, m)

-- what comes of a turn: an access was made, and more is to come, or the advance ends
abbrev follows : Request → List ℕ → SavedCall → ℕ → ℕ → ℕ → ℕ → Result Turned Report → List ℕ → List ℕ → Final
follows q l s u at w n (Ok t) b log = finish log (at + 2) t.used (w + 1) (advance_from q n t.saved b (drop t.used l))
follows q l s u at w n (Err r) b log =
    record { advanced = record { used = u; written = w; saved = s; report = r }; buffer = b; log = log }

abbrev Steps : Request → List ℕ → SavedCall → List ℕ → ℕ → List ℕ → ℕ → ℕ → ℕ → Left Turned → Type 0
Steps q l s b u log at w n t =
    finish log at u w (advance_from q (suc n) s b (drop u l)) ≡ follows q l s u at w n t.came t.buffer t.log

module _ (q : Request) (l : List ℕ) (s : SavedCall) (b : List ℕ) (u : ℕ) (log : List ℕ) (at w n : ℕ) where
  abbrev made_in : Access → Left Turned
  made_in x = turn_by q.call q.words (view_of q s) s (made_by s b l u log at x)

  -- the answer that is left, and what follows it
  some_left : ltb u (length l) ≡ true → drop u l ≡ get_or l u 0 ∷ drop (u + 1) l
  some_left e = rw add-one (drop-cons l u 0 (ltb-true u (length l) e))

  none_left : ltb u (length l) ≡ false → drop u l ≡ []
  none_left e = drop_of_length-le l (ltb-false u (length l) e)

  step : (x : Access) (t : Bool) → ltb u (length l) ≡ t → access_of q b s ≡ x → Steps q l s b u log at w n (made_in x)
  unfolding advance_from after_of
  step Nothing t e x = simp (x, add-zero)
  step (Write r v) t e x = rw x (more log at u u w (write_entry r v) _ (advance_from q n (after_of q s 0) b (drop u l)) refl)
  step (Read r) true e x =
      rw (e, x, some_left e)
      (more log at u (u + 1) w (read_entry r (get_or l u 0)) _ (advance_from q n (after_of q s (get_or l u 0)) b (drop (u + 1) l)) (omega arith))
  step (Read r) false e x = simp (e, x, none_left e, add-zero)
  step (Take i) true e x =
      rw (e, x, some_left e)
      (more log at u (u + 1) w (read_entry Rxdr (get_or l u 0)) _
      (advance_from q n (after_of q s (get_or l u 0)) (set b i (byte_of (get_or l u 0))) (drop (u + 1) l)) (omega arith))
  step (Take i) false e x = simp (e, x, none_left e, add-zero)

  -- a turn is one access of the definition
  pub one_turn : Steps q l s b u log at w n (made_in (access_of q b s))
  one_turn = step (access_of q b s) (ltb u (length l)) refl refl

-- an access that was made, and the call after it, are a turn; where none was made, nor was a turn
module _ (c : Call) (d : Description) (v : View) (s : SavedCall) (b log : List ℕ) (M : Left Made) where
  pub goes : (m : Made) → left (Ok m) b log ≡ M → (n : SavedCall) → n ≡ after_in c d v s m.answer →
      left (Ok (turned m.used n)) b log ≡ turn_by c d v s M
  goes m E n e = rw e (ap (turn_by c d v s) E)

  pub stays : (r : Report) → left (Err r) b log ≡ M → left (Err r) b log ≡ turn_by c d v s M
  stays r E = ap (turn_by c d v s) E

-- and a turn is owed to an access
record Comes (c : Call) (d : Description) (v : View) (s : SavedCall) (m : Result Made Report) (t : Turned) : Type 0 where
  access : Made
  came : m ≡ Ok access
  saved : t.saved ≡ after_in c d v s access.answer

comes : (c : Call) (d : Description) (v : View) (s : SavedCall) (m : Result Made Report) (t : Turned) →
    Ok t ≡ after_made c d v s m → Comes c d v s m t
comes c d v s (Ok m) t e =
    let f : t ≡ turned m.used (after_in c d v s m.answer) = cc in
    record { access = m; came = refl; saved = ap (λ (x : Turned). x.saved) f }
comes c d v s (Err r) t e = absurd (cc)

-- What both loops go by: the lent slices keep their lengths, v is the view of the running piece, what row 13 asks holds, and
-- what is still to come is F.
pub record Going (q : Request) (l : List ℕ) (p : ℕ) (F : Final) (b₀ log₀ b log : List ℕ) (s : SavedCall) (v : View) (u w : ℕ) : Type 0 where
  pub places : 2 * p ≤ length log
  pub buffer_kept : length b ≡ length b₀
  pub log_kept : length log ≡ length log₀
  pub view : v ≡ view_of q s
  pub known : Known q s
  pub rest : to_come q l p b log s u w ≡ F

-- one within the other
pub after : {q : Request} {l : List ℕ} {p : ℕ} {F : Final} {b₀ log₀ b₁ log₁ b log : List ℕ} {s₁ s : SavedCall} {v₁ v : View} {u₁ w₁ u w : ℕ} →
    Going q l p (to_come q l p b₁ log₁ s₁ u₁ w₁) b₁ log₁ b log s v u w → Going q l p F b₀ log₀ b₁ log₁ s₁ v₁ u₁ w₁ →
    Going q l p F b₀ log₀ b log s v u w
after g h =
    record {
      places = g.places;
      buffer_kept = g.buffer_kept ∙ h.buffer_kept;
      log_kept = g.log_kept ∙ h.log_kept;
      view = g.view;
      known = g.known;
      rest = g.rest ∙ h.rest;
    }

-- where a quick one was passed on, nothing was touched
pub untouched : {q : Request} {l : List ℕ} {p : ℕ} {F : Final} {b₀ log₀ b log b' log' : List ℕ} {s : SavedCall} {v : View} {u w : ℕ} →
    b' ≡ b → log' ≡ log → Going q l p F b₀ log₀ b log s v u w → Going q l p F b₀ log₀ b' log' s v u w
untouched x y g = rw (x, y) g

-- What a turn t from there with the buffer b' and the log log' left is.
module _ {q : Request} {l : List ℕ} {p : ℕ} {F : Final} {b₀ log₀ b log : List ℕ} {s : SavedCall} {v : View} {u w : ℕ}
    (g : Going q l p F b₀ log₀ b log s v u w) where
  module _ (t : Result Turned Report) (b' log' : List ℕ) (E : left t b' log' ≡ turn_of q.call q.words v s b l u log (2 * w)) where
    seen : left t b' log' ≡ turn_of q.call q.words (view_of q s) s b l u log (2 * w)
    seen = E ∙ ap (λ (x : View). turn_of q.call q.words x s b l u log (2 * w)) g.view

    steps : w < p → to_come q l p b log s u w ≡ follows q l s u (2 * w) w (p - (w + 1)) t b' log'
    unfolding access_of
    steps h =
        let less : p - w ≡ suc (p - (w + 1)) = omega arith in
        rw less (subst⁻¹ (Steps q l s b u log (2 * w) w (p - (w + 1))) seen (one_turn q l s b u log (2 * w) w (p - (w + 1))))

  -- none was made: nothing is still to come
  pub ends : (r : Report) (b' log' : List ℕ) → left (Err r) b' log' ≡ turn_of q.call q.words v s b l u log (2 * w) → w < p →
      as_final (record { used = u; written = w; saved = s; report = r }) b' log' ≡ F
  ends r b' log' E h = sym (steps (Err r) b' log' E h) ∙ g.rest

  -- an access was made
  module _ (t : Turned) (b' log' : List ℕ) (E : left (Ok t) b' log' ≡ turn_of q.call q.words v s b l u log (2 * w)) where
    pub again : w < p → to_come q l p b' log' t.saved t.used (w + 1) ≡ F
    again h =
        let two : 2 * (w + 1) ≡ 2 * w + 2 = omega arith in
        rw two (sym (steps (Ok t) b' log' E h) ∙ g.rest)

    -- and what row 13 asks still holds
    pub kept : Known q t.saved
    unfolding after_of access_of
    kept =
        let M = made_of q.call q.words (view_of q s) s b l u log (2 * w) in
        let o = comes q.call q.words (view_of q s) s M.came t (ap (λ (x : Left Turned). x.came) (seen (Ok t) b' log' E)) in
        both (same_step s.step Ended)
        (λ n. absurd (let x : Err (Over s.outcome) ≡ Ok o.access = ap (λ (y : Access). (made_by s b l u log (2 * w) y).came) (sym (no_access q b s n)) ∙ o.came in cc))
        (λ n. subst⁻¹ (Known q) o.saved (known_after q s o.access.answer n g.known))

    pub goes_on : w < p → length b' ≡ length b → length log' ≡ length log → (v' : View) → v' ≡ view_of q t.saved →
        Going q l p F b₀ log₀ b' log' t.saved v' t.used (w + 1)
    goes_on h x y v' e =
        record {
          places = rw y g.places;
          buffer_kept = x ∙ g.buffer_kept;
          log_kept = y ∙ g.log_kept;
          view = e;
          known = kept;
          rest = again h;
        }

  -- a quick one: the running piece stays, so its view does
  pub goes_quick : (k : Quick) (b' log' : List ℕ) → Quickly v s b l u log (2 * w) (Some k) b' log' → w < p →
      length b' ≡ length b → length log' ≡ length log → Going q l p F b₀ log₀ b' log' (moved_by s k) v k.used (w + 1)
  goes_quick k b' log' Q h x y = goes_on (turned k.used (moved_by s k)) b' log' (Q q.call q.words) h x y v g.view

  -- no place is left
  pub full : p ≤ w → (r : Report) → r ≡ cond (same_step s.step Ended) (Over s.outcome) Full →
      as_final (record { used = u; written = w; saved = s; report = r }) b log ≡ F
  unfolding advance_from
  full h r e =
      let none : p - w ≡ 0 = omega arith in
      let all : to_come q l p b log s u w ≡ as_final (record { used = u; written = w; saved = s; report = r }) b log =
      simp (none, add-zero, e) in
      sym all ∙ g.rest

-- an ended call is over, however many places there are
pub ended : (q : Request) (n : ℕ) (s : SavedCall) (b l : List ℕ) → T (same_step s.step Ended) →
    advance_from q n s b l ≡ stops (Over s.outcome) s b
unfolding advance_from
ended q zero s b l h = rw (is_true (same_step s.step Ended) h)
ended q (suc n) s b l h = rw (no_access q b s h)
