-- Advances made one after the other are one advance, wherever their entries go. Assumes nothing.
use Prim.Native.Nat.{ℕ, zero, suc, ◌+◌, ◌-◌, ◌*◌, ◌/◌, ◌≤◌, ◌<◌}
use native.Mathlib.Nat.{zero-add, add_assoc}
use native.Mathlib.Omega.{arith}
use mathlib.Core.Path.{◌≡◌, refl, sym, ap, ◌∙◌, subst⁻¹}
use mathlib.Core.Bool.{true, false}
use mathlib.Core.List.{List, [], ◌∷◌, ◌++◌, append_assoc}
use lib.Dec.{T}
use lib.ListN.{length, take, drop, length-append, length-drop}
use lib.Seq.{length-take-le, take_at, drop-drop}
use Rattle.calls.specs.Joined.{is_full, join_run, then_run, Reached, as_reached, not_yet, reached_by, add_run, go_on, rest_from}
use Rattle.calls.specs.Run.{Entry, Run, words_of, run_of, Final, as_final, final_of}
use Rattle.calls.specs.declared.Advanced.{Advanced}
use Rattle.calls.specs.declared.Description.{Description}
use Rattle.calls.specs.declared.Report.{Report}
use Rattle.calls.specs.declared.Report.TheVariants.{Over, Full, Waiting, Refused}
use Rattle.calls.specs.declared.SavedCall.{SavedCall}
use Rattle.calls.proofs.Cut.{two_each}
use Rattle.calls.proofs.Joined.{in_pieces, Within, within}

words_append : (es fs : List Entry) → words_of (es ++ fs) ≡ words_of es ++ words_of fs
words_append [] fs = refl
words_append (e ∷ es) fs = ap (λ (l : List ℕ). e.code ∷ e.value ∷ l) (words_append es fs)

is_full_holds : (r : Report) → is_full r ≡ true → r ≡ Full
is_full_holds (Over o) h = absurd (subst⁻¹ T h tt)
is_full_holds Full h = refl
is_full_holds (Waiting k) h = absurd (subst⁻¹ T h tt)
is_full_holds (Refused r) h = absurd (subst⁻¹ T h tt)

-- ---- one advance after t, by its contract
module _ (d : Description) (ops : List ℕ) (t : Advanced) (b l log : List ℕ) (a : Advanced) (b' log' : List ℕ)
    (E : as_final a b' log' ≡ final_of d ops t.saved b l log) where
  abbrev R : Run
  R = run_of d ops (length log / 2) t.saved b l

  written : a.written ≡ length R.entries
  written = ap (λ (F : Final). F.advanced.written) E

  used : a.used ≡ R.used
  used = ap (λ (F : Final). F.advanced.used) E

  pub few : a.written ≤ length log / 2
  few = rw written (within d ops (length log / 2) t.saved b l).entries

  pub some_used : a.used ≤ length l
  some_used = rw used (within d ops (length log / 2) t.saved b l).used

  -- its log is the front of z
  module _ (z more : List ℕ) (front : z ≡ log' ++ more) where
    made : z ≡ words_of R.entries ++ (drop (length (words_of R.entries)) log ++ more)
    made = front ∙ rw (ap (λ (F : Final). F.log) E) (append_assoc (words_of R.entries) _ more)

    twice : length (words_of R.entries) ≡ 2 * a.written
    twice = two_each R.entries ∙ rw written

    pub in_log : 2 * a.written ≤ length z
    in_log = rw (made, length-append) (omega (arith, twice))

    pub counted : 2 * a.written ≡ length (take (2 * a.written) z)
    counted = sym (length-take-le (2 * a.written) z in_log)

    -- the entries in it are put after those that K has
    pub added : {Out : Type 0} (put : ℕ → List ℕ → Out → Out) (K o : Out) → o ≡ put t.written (take (2 * a.written) z) K →
        (answers : List ℕ) (n : ℕ) → l ≡ drop t.used answers → length log / 2 ≡ n →
        as_reached (record { used = t.used + a.used; written = t.written + a.written; saved = a.saved; report = a.report }) b' o
        ≡ go_on put d ops answers n (as_reached t b K)
    added put K o e answers n f g =
        rw (
          e,
          made,
          take_at (words_of R.entries) (drop (length (words_of R.entries)) log ++ more) (2 * a.written) twice,
          used,
          written,
          ap (λ (F : Final). F.advanced.saved) E,
          ap (λ (F : Final). F.advanced.report) E,
          ap (λ (F : Final). F.buffer) E,
          ← f,
          ← g,
        )

-- ---- k places are lent of the n that are left after F
module _ {Out : Type 0} (put : ℕ → List ℕ → Out → Out) (d : Description) (ops l : List ℕ) (F : Reached Out) (k n : ℕ) (le : k ≤ n) where
  abbrev piece : ℕ → Run
  piece m = run_of d ops m F.advanced.saved F.buffer (drop F.advanced.used l)

  in_two : piece n ≡ then_run (piece k) (drop F.advanced.used l) (run_of d ops (n - k))
  in_two =
      let e : n ≡ k + (n - k) = omega arith in
      ap piece e ∙ in_pieces d ops k (n - k) F.advanced.saved F.buffer (drop F.advanced.used l)

  inside : Within k F.buffer (drop F.advanced.used l) (piece k)
  inside = within d ops k F.advanced.saved F.buffer (drop F.advanced.used l)

  module _ (G : Reached Out) (came : G ≡ go_on put d ops l k F) where
    pub used_in : F.advanced.used ≤ length l → G.advanced.used ≤ length l
    used_in h = rw came (omega (arith, inside.used, length-drop F.advanced.used l))

    pub written_in : G.advanced.written ≤ F.advanced.written + n
    written_in = rw came (omega (arith, inside.entries))

    pub all_written : is_full G.advanced.report ≡ true → G.advanced.written ≡ F.advanced.written + k
    all_written f = rw came (ap (λ (m : ℕ). F.advanced.written + m) (inside.full (is_full_holds (piece k).report (rw came at f))))

    module _ (W : Reached Out) (whole : go_on put d ops l n F ≡ W) where
      -- a piece that is not full is all of it
      pub ends_here : is_full G.advanced.report ≡ false → G ≡ W
      ends_here f =
          let g : is_full (piece k).report ≡ false = rw came at f in
          let e : piece n ≡ piece k = in_two ∙ rw g in
          came ∙ ap (add_run put F) (sym e) ∙ whole

      -- and after a full one the rest is left, if entries put after entries are put at once, as far as the places go
      pub goes_on : ((es fs : List Entry) → length es + length fs ≤ n →
          put (F.advanced.written + length es) (words_of fs) (put F.advanced.written (words_of es) F.out)
          ≡ put F.advanced.written (words_of es ++ words_of fs) F.out)
          → is_full G.advanced.report ≡ true → (m : ℕ) → m ≡ n - k → rest_from put d ops l m G ≡ W
      goes_on law f zero z = came ∙ ap (λ (j : ℕ). go_on put d ops l j F) (let e : k ≡ n = omega arith in e) ∙ whole
      goes_on law f (suc m) z =
          let P : Run = piece k in
          let g : is_full P.report ≡ true = rw came at f in
          let S : Run = run_of d ops (suc m) P.saved P.buffer (drop (F.advanced.used + P.used) l) in
          let i = (within d ops (suc m) P.saved P.buffer (drop (F.advanced.used + P.used) l)).entries in
          let e : piece n ≡ join_run P S = in_two ∙ rw (g, ← z, drop-drop P.used F.advanced.used l) in
          rw (came, g)
          (rw (law P.entries S.entries (omega (arith, inside.entries)), add_assoc, add_assoc, ← length-append, ← words_append)
          (ap (add_run put F) (sym e) ∙ whole))

-- ---- what is left, of the answers l
module _ {Out : Type 0} (put : ℕ → List ℕ → Out → Out) (d : Description) (ops l : List ℕ) (F W : Reached Out) where
  pub some_left : (n : ℕ) → 0 < n → is_full F.advanced.report ≡ true → rest_from put d ops l n F ≡ W → go_on put d ops l n F ≡ W
  some_left zero h f e = absurd (omega arith)
  some_left (suc n) h f e = rw f at e

  pub none_left : (n : ℕ) → n ≤ 0 → rest_from put d ops l n F ≡ W → F ≡ W
  none_left zero h e = e
  none_left (suc n) h e = absurd (omega arith)

-- at first all of it is
pub at_first : {Out : Type 0} (put : ℕ → List ℕ → Out → Out) (R : Run) (s : SavedCall) (b : List ℕ) (o : Out) →
    add_run put (as_reached (not_yet s) b o) R ≡ reached_by put R o
at_first put R s b o = simp zero-add
