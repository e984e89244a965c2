-- What an accepted call is: its number is the description's, and rows 10 and 11 leave this of its operations and buffer.
-- Assumes nothing.
use Rattle.std.specs.Prelude.{Option, Some, None, Result, Ok, Err}
use Prim.Native.Nat.{ℕ, ◌≤◌}
use native.Mathlib.Omega.{arith}
use mathlib.Core.Path.{◌≡◌, sym}
use mathlib.Core.Bool.{Bool, true, false, not, ◌&&◌, ◌||◌}
use mathlib.Core.List.{List, [], ◌∷◌}
use lib.Dec.{T, eqb, ltb, eqb→eq, nltb→le}
use lib.ListN.{length}
use Rattle.calls.specs.Calls.{call_number, transaction, manual, receives, transmits}
use Rattle.calls.specs.Refusals.{no_such_call, address_wide, total, any_of, strange_bits, list_wrong, buffer_wrong, verdict_of, request_of, verdict_by, listed, lookup_in, lookup_of, check_of}
use Rattle.calls.specs.declared.Call.{Call}
use Rattle.calls.specs.declared.Description.{Description}
use Rattle.calls.specs.declared.Refusal.{Refusal}
use Rattle.calls.proofs.Logic.{by_test, nor_1}

pub record Fit (c : Call) (ops : List ℕ) (n : ℕ) : Type 0 where
  pub size : n ≤ 65535
  pub few : T (transaction c) → length ops ≤ 64
  pub sum : T (transaction c) → total ops ≡ n

-- a call that is looked up has that number
abbrev Numbered : ℕ → Option Call → Type 0
Numbered n (Some c) = call_number c ≡ n
Numbered n None = Unit {0}

looked_up : (cs : List Call) (n : ℕ) → Numbered n (lookup_in cs n)
looked_up [] n = tt
looked_up (c ∷ cs) n = by_test (Numbered n) (eqb n (call_number c)) (λ h. sym (eqb→eq n (call_number c) h)) (λ _. looked_up cs n)

-- the rows that an accepted call passed
record Passed (c : Call) (d : Description) (ops : List ℕ) (n : ℕ) : Type 0 where
  number : call_number c ≡ d.call
  list : T (not (list_wrong c ops n))
  buffer : T (not (buffer_wrong c n))

passed : (c₀ c : Call) (d : Description) (ops : List ℕ) (n : ℕ) → call_number c₀ ≡ d.call
    → verdict_of (request_of c₀ d ops n) ≡ Ok c → Passed c d ops n
unfolding verdict_of
passed c₀ c d ops n f =
    by_test P (no_such_call c₀ d) (λ _ e. refused e) (λ _.
    by_test P (address_wide c₀ d) (λ _ e. refused e) (λ _.
    by_test P (list_wrong c₀ ops n) (λ _ e. refused e) (λ i.
    by_test P (buffer_wrong c₀ n) (λ _ e. refused e) (λ k e.
    let same : c ≡ c₀ = cc in rw same (record { number = f; list = i; buffer = k })))))
  where
    P : Result Call Refusal → Type 0
    P v = v ≡ Ok c → Passed c d ops n

    refused : {r : Refusal} → Err r ≡ Ok c → Passed c d ops n
    refused e = let z : ◌≡◌ {A = ℕ} 0 1 = cc in absurd (omega arith)

checked : (c : Call) (d : Description) (ops : List ℕ) (n : ℕ) → check_of d ops n ≡ Ok c → Passed c d ops n
unfolding check_of lookup_of
checked c d ops n = go (lookup_of d.call) (looked_up listed d.call)
  where
    go : (l : Option Call) → Numbered d.call l → verdict_by l d ops n ≡ Ok c → Passed c d ops n
    go None f e = let z : ◌≡◌ {A = ℕ} 0 1 = cc in absurd (omega arith)
    go (Some c₀) f e = passed c₀ c d ops n f e

pub accepted_number : (c : Call) (d : Description) (ops : List ℕ) (n : ℕ) → check_of d ops n ≡ Ok c → call_number c ≡ d.call
accepted_number c d ops n e = (checked c d ops n e).number

-- the list of a transaction: not too many, and the whole buffer
list_fits : (t a b e : Bool) → T (not (t && (a || (b || not e)))) → T t → T (not a) × T e
list_fits true true b e h x = absurd h
list_fits true false true e h x = absurd h
list_fits true false false true h x = (tt, tt)
list_fits true false false false h x = absurd h
list_fits false a b e h x = absurd x

pub accepted_fit : (c : Call) (d : Description) (ops : List ℕ) (n : ℕ) → check_of d ops n ≡ Ok c → Fit c ops n
accepted_fit c d ops n e =
    let p = checked c d ops n e in
    record {
      size =
          nltb→le 65535 n
          (nor_1 (((receives c || transmits c) && not (manual c)) && eqb n 0) (ltb 65535 n) p.buffer);
      few = λ t. nltb→le 64 (length ops) (fits p.list t).0;
      sum = λ t. eqb→eq (total ops) n (fits p.list t).1;
    }
  where
    fits : T (not (list_wrong c ops n)) → T (transaction c) → T (not (ltb 64 (length ops))) × T (eqb (total ops) n)
    fits = list_fits (transaction c) (ltb 64 (length ops)) (any_of strange_bits ops) (eqb (total ops) n)
