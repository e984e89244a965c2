-- A list of advances after one begin, and what demand 3 says of it: however a call is cut, it is one uncut run.
-- Assumes nothing.
use Rattle.std.specs.Prelude.{ℕ, ◌+◌, ◌*◌, ◌/◌, ◌<◌, ◌≡◌, Bool, true, false, cond, not, List, [], ◌∷◌, ◌++◌, T, ltb, length, take, Result, Ok, Err}
use Rattle.registers.specs.declared.Register.{Register}
use Rattle.calls.specs.Calls.{Request}
use Rattle.calls.specs.Next.{next_of}
use Rattle.calls.specs.Refusals.{request_of}
use Rattle.calls.specs.Run.{Entry, words_of, uncut_of, no_call, as_final, final_of}
use Rattle.calls.specs.Steps.{access_of, begin_of, same_step}
use Rattle.calls.specs.declared.Advanced.{Advanced}
use Rattle.calls.specs.declared.Description.{Description}
use Rattle.calls.specs.declared.Next.TheVariants as next
use Rattle.calls.specs.declared.Report.{Report}
use Rattle.calls.specs.declared.Report.TheVariants.{Over, Full, Waiting, Refused}
use Rattle.calls.specs.declared.SavedCall.{SavedCall}
use Rattle.calls.specs.declared.Step.TheVariants.{Ended}
use Rattle.calls.specs.declared.Call.{Call}
use Rattle.calls.specs.declared.Refusal.{Refusal}

-- A call of advance: what it was lent, what it returned, and what it left in the buffer and the log.
pub record Advance : Type 0 where
  pub words : Description
  pub operations : List ℕ
  pub buffer : List ℕ
  pub answers : List ℕ
  pub log : List ℕ
  pub result : Advanced
  pub buffer_left : List ℕ
  pub log_left : List ℕ

-- It meets the contract of advance, on the saved call s.
abbrev pub Meets : Advance → SavedCall → Type 0
Meets A s =
    as_final A.result A.buffer_left A.log_left
    ≡ final_of A.words A.operations s A.buffer A.answers A.log

abbrev pub is_refusal : Report → Bool
is_refusal (Over o) = false
is_refusal Full = false
is_refusal (Waiting r) = false
is_refusal (Refused r) = true

abbrev pub refused : Advance → Bool
refused A = is_refusal A.result.report

-- Each advance of a list gets the saved call as the last one left it. An accepted one gets the begun description and the
-- begun buffer b as the last accepted one left it; a refused one may get anything else.
pub data Follows (d : Description) (ops : List ℕ) : List Advance → SavedCall → List ℕ → Type 0 where
  none : {s : SavedCall} {b : List ℕ} → Follows d ops [] s b
  but : {A : Advance} {As : List Advance} {s : SavedCall} {b : List ℕ} →
      Meets A s → T (refused A) → Follows d ops As A.result.saved b → Follows d ops (A ∷ As) s b
  then : {A : Advance} {As : List Advance} {s : SavedCall} {b : List ℕ} →
      Meets A s → A.words ≡ d → A.operations ≡ ops → A.buffer ≡ b → T (not (refused A)) →
      Follows d ops As A.result.saved A.buffer_left → Follows d ops (A ∷ As) s b

-- What the advances did together: entries made, the words that they wrote, joined, the answers that they used, joined,
-- the begun buffer and the saved call in the end, and the last one that was accepted.
abbrev pub made : List Advance → ℕ
made [] = 0
made (A ∷ As) = A.result.written + made As

abbrev pub joined : List Advance → List ℕ
joined [] = []
joined (A ∷ As) = take (2 * A.result.written) A.log_left ++ joined As

abbrev pub given : List Advance → List ℕ
given [] = []
given (A ∷ As) = take A.result.used A.answers ++ given As

abbrev pub buffer_after : List Advance → List ℕ → List ℕ
buffer_after [] b = b
buffer_after (A ∷ As) b = buffer_after As (cond (refused A) b A.buffer_left)

abbrev pub saved_after : List Advance → SavedCall → SavedCall
saved_after [] s = s
saved_after (A ∷ As) s = saved_after As A.result.saved

pub data Last : Type 0 where
  nobody : Last
  last : Advance → Last

abbrev pub or_else : Last → Bool → Advance → Last
or_else nobody true A = nobody
or_else nobody false A = last A
or_else (last B) r A = last B

abbrev pub last_accepted : List Advance → Last
last_accepted [] = nobody
last_accepted (A ∷ As) = or_else (last_accepted As) (refused A) A

-- Why an accepted advance came back, by the call s and the buffer b after it: the call is over, with its outcome; or the
-- next access found no place left; or it is a read, of the register that the report names, that had a place and no answer left.
pub data Came (q : Request) (s : SavedCall) (b : List ℕ) (A : Advance) : Type 0 where
  over : T (same_step s.step Ended) → A.result.report ≡ Over s.outcome → Came q s b A
  full : T (not (same_step s.step Ended)) → A.result.written ≡ length A.log / 2 → A.result.report ≡ Full → Came q s b A
  waiting : (r : Register) → T (not (same_step s.step Ended)) → A.result.written < length A.log / 2 →
      next_of (access_of q b s) ≡ next.Read r → A.result.used ≡ length A.answers → A.result.report ≡ Waiting r → Came q s b A

abbrev pub LastCame : Request → SavedCall → List ℕ → Last → Type 0
LastCame q s b nobody = Unit {0}
LastCame q s b (last A) = Came q s b A

-- an advance with the begun description, n bytes of buffer included, is not refused
abbrev pub NoneRefused : Description → List ℕ → ℕ → List Advance → Type 0
NoneRefused d ops n [] = Unit {0}
NoneRefused d ops n (A ∷ As) =
    (A.words ≡ d → A.operations ≡ ops → length A.buffer ≡ n → T (not (refused A))) × NoneRefused d ops n As

-- a refused advance uses no answer, writes nothing, and hands the saved call back the same
pub record Untouched (A : Advance) (s : SavedCall) : Type 0 where
  pub saved : A.result.saved ≡ s
  pub used : A.result.used ≡ 0
  pub written : A.result.written ≡ 0
  pub buffer : A.buffer_left ≡ A.buffer
  pub log : A.log_left ≡ A.log

abbrev pub RefusedUntouched : List Advance → SavedCall → Type 0
RefusedUntouched [] s = Unit {0}
RefusedUntouched (A ∷ As) s = (T (refused A) → Untouched A s) × RefusedUntouched As A.result.saved

-- the answers that a log's reads took, a read's code being below 0x100
abbrev pub answers_in : List Entry → List ℕ
answers_in [] = []
answers_in (e ∷ es) = cond (ltb e.code 0x100) (e.value ∷ []) [] ++ answers_in es

-- Demand 3 for the advances As after an accepted begin of q with the buffer b.
pub record OneRun (q : Request) (b : List ℕ) (As : List Advance) : Type 0 where
  -- the entries of the uncut run to as many accesses, over the answers used, whatever answers follow
  pub log : List Entry
  pub count : length log ≡ made As
  pub words : words_of log ≡ joined As
  pub answers : answers_in log ≡ given As
  pub run : (rest : List ℕ) →
      uncut_of q (made As) (begin_of q) b (given As ++ rest)
      ≡ record { saved = saved_after As (begin_of q); buffer = buffer_after As b; log = log }
  -- an ended call stays as it is, whatever more accesses and answers it is given
  pub stays : T (same_step (saved_after As (begin_of q)).step Ended) → (m : ℕ) (rest : List ℕ) →
      uncut_of q (made As + m) (begin_of q) b (given As ++ rest)
      ≡ record { saved = saved_after As (begin_of q); buffer = buffer_after As b; log = log }
  -- what the last accepted advance reported
  pub came : LastCame q (saved_after As (begin_of q)) (buffer_after As b) (last_accepted As)
  pub accepted : NoneRefused q.words q.operations q.size As
  pub untouched : RefusedUntouched As (begin_of q)

-- and after a refused one: every advance is refused, and nothing was done
abbrev pub AllRefused : List Advance → Type 0
AllRefused [] = Unit {0}
AllRefused (A ∷ As) = T (refused A) × AllRefused As

pub record NoRun (b : List ℕ) (As : List Advance) : Type 0 where
  pub refused : AllRefused As
  pub untouched : RefusedUntouched As no_call
  pub made : made As ≡ 0
  pub joined : joined As ≡ []
  pub buffer : buffer_after As b ≡ b

abbrev pub CutAnywhere : Result Call Refusal → Description → List ℕ → List ℕ → List Advance → Type 0
CutAnywhere (Ok c) d ops b As = OneRun (request_of c d ops (length b)) b As
CutAnywhere (Err r) d ops b As = NoRun b As
