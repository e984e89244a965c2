-- A log has no fault exactly if its entries are whole and their codes known, and a page is laid out exactly if there is room for it too.
-- Assumes nothing.
use Rattle.std.specs.Prelude.{Some, None, Result, Ok, Err}
use Prim.Native.Nat.{ℕ, ◌+◌, ◌%◌, ◌≤◌}
use native.Mathlib.Omega.{arith}
use mathlib.Core.Path.{◌≡◌, refl}
use mathlib.Core.Bool.{Bool, true, false, cond}
use mathlib.Core.List.{List, [], ◌∷◌, ◌++◌}
use lib.Dec.{eqb, leb}
use lib.ListN.{length, drop}
use borrow.Author.Tests.{eq-eqb, eqb-true, le-leb, leb-true}
use Rattle.words.specs.Words.{words_in}
use Rattle.page.specs.Page.{access_of, is_known, fault_from, fault_of, is_sound, page_of, left, page_in}
use Rattle.page.specs.Promises.{EachKnown}
use Rattle.page.specs.declared.Fault.{Fault}
use Rattle.page.specs.declared.Fault.TheVariants.{NotWhole, UnknownCode}

no_fault : {f : Result (Unit {0}) Fault} (b : Bool) (n : ℕ) → cond b f (Err (UnknownCode n)) ≡ Ok tt → (b ≡ true) × (f ≡ Ok tt)
no_fault true n e = (refl, e)
no_fault false n e = let z : ◌≡◌ {A = ℕ} 0 1 = cc in absurd (omega arith)

pub sound : (n : ℕ) (log : List ℕ) → fault_from n log ≡ Ok tt → EachKnown log
unfolding fault_from
sound n [] e = tt
sound n (w ∷ []) e = let z : ◌≡◌ {A = ℕ} 0 1 = cc in absurd (omega arith)
sound n (code ∷ value ∷ log) e = let z = no_fault (is_known (access_of code)) n e in (z.0, sound (n + 1) log z.1)

pub only_so : (n : ℕ) (log : List ℕ) → EachKnown log → fault_from n log ≡ Ok tt
unfolding fault_from
only_so n [] k = refl
only_so n (w ∷ []) k = absurd k
only_so n (code ∷ value ∷ log) k = rw k.0 (only_so (n + 1) log k.1)

-- ---- when a page is laid out
module _ (log buffer : List ℕ) where
  abbrev text : List ℕ
  text = page_of (words_in log)

  pub accepted : length log % 8 ≡ 0 → EachKnown (words_in log) → length text ≤ length buffer →
      page_in log buffer ≡ left (Some (length text)) (text ++ drop (length text) buffer)
  unfolding page_in fault_of
  accepted h k l = rw (eq-eqb (length log % 8) 0 h, only_so 1 (words_in log) k, le-leb (length text) (length buffer) l)

  pub only_then : (n : ℕ) → (page_in log buffer).page ≡ Some n → (length log % 8 ≡ 0) × EachKnown (words_in log) × (length text ≤ length buffer)
  unfolding page_in fault_of
  only_then n = go (eqb (length log % 8) 0) refl (fault_from 1 (words_in log)) refl (leb (length text) (length buffer)) refl
    where
      go : (b : Bool) → eqb (length log % 8) 0 ≡ b → (F : Result (Unit {0}) Fault) → fault_from 1 (words_in log) ≡ F → (c : Bool) → leb (length text) (length buffer) ≡ c →
          (cond (is_sound (cond b F (Err NotWhole))) (cond c (left (Some (length text)) (text ++ drop (length text) buffer)) (left None buffer)) (left None buffer)).page ≡ Some n →
          (length log % 8 ≡ 0) × EachKnown (words_in log) × (length text ≤ length buffer)
      go true p (Ok u) q true r e = (eqb-true (length log % 8) 0 p, sound 1 (words_in log) q, leb-true (length text) (length buffer) r)
      go true p (Ok u) q false r e = absurd (let z : ◌≡◌ {A = ℕ} 0 1 = cc in omega arith)
      go true p (Err NotWhole) q c r e = absurd (let z : ◌≡◌ {A = ℕ} 0 1 = cc in omega arith)
      go true p (Err (UnknownCode k)) q c r e = absurd (let z : ◌≡◌ {A = ℕ} 0 1 = cc in omega arith)
      go false p F q c r e = absurd (let z : ◌≡◌ {A = ℕ} 0 1 = cc in omega arith)

  pub unchanged : (page_in log buffer).page ≡ None → (page_in log buffer).buffer ≡ buffer
  unfolding page_in
  unchanged = go (is_sound (fault_of log)) (leb (length text) (length buffer))
    where
      go : (b c : Bool) → let L = cond b (cond c (left (Some (length text)) (text ++ drop (length text) buffer)) (left None buffer)) (left None buffer) in
          L.page ≡ None → L.buffer ≡ buffer
      go true true e = absurd (let z : ◌≡◌ {A = ℕ} 0 1 = cc in omega arith)
      go true false e = refl
      go false c e = refl
