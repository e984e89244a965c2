-- What `text` gives a caller, once more, fact by fact: how many bytes it fills and with which, which it leaves, and that the runs shown are
-- whole. A contract that loses a fact, and its proof with it, fails here. Assumes nothing.
use Rattle.std.specs.Prelude.{Result, Ok, Err}
use Prim.Native.Nat.{ℕ, zero, suc, ◌+◌, ◌-◌, ◌*◌, ◌≤◌, ◌<◌, min}
use native.Mathlib.Omega.{arith}
use mathlib.Core.Path.{◌≡◌, sym, ap, ◌∙◌, subst}
use mathlib.Core.Bool.{false}
use mathlib.Core.List.{List, ◌++◌}
use lib.ListN.{length, get_or, take, drop, length-take, length-drop, length-append, get_or-append}
use lib.Seq.{get_or-take, get_or-drop, get_or-append-add}
use borrow.Fn.Kinds
use borrow.Fn.World
use contract.Lifetimes.{Lfts}
use denote.Triple.Clauses
use Rattle.benchfile.specs.Calls.{plain, head_description, operations_of, lent_buffer}
use Rattle.benchfile.specs.File.{body_size, file_wrong}
use Rattle.words.specs.Words.{words_in}
use Rattle.calls.specs.Advances.{answers_in}
use Rattle.calls.specs.Calls.{Request}
use Rattle.calls.specs.Refusals.{request_of, check_of}
use Rattle.calls.specs.Run.{uncut_of, no_call, Run, stops}
use Rattle.calls.specs.Next.{next_of}
use Rattle.calls.specs.Steps.{access_of, begin_of}
use Rattle.calls.specs.Whole.{stop_at, WholeCall}
use Rattle.calls.specs.declared.Call.{Call}
use Rattle.calls.specs.declared.Description.{Description}
use Rattle.calls.specs.declared.Refusal.{Refusal}
use Rattle.calls.specs.declared.Report.TheVariants.{Refused}
use Rattle.drive.specs.Drive.{run_for}
use Rattle.lines.specs.declared.Form.{Form}
use Rattle.window.specs.Window.{Shown, window_of}
use Rattle.bench.specs.Text.{file_text, CallsWhole}
use Rattle.bench.specs.contracts.text as text
use Rattle.bench.proofs.text.Kinds as text-kinds
use Rattle.bench.proofs.text.Reads as text-reads

-- the table from row k on, and the bodies from its body on
abbrev rows_from : ℕ → List ℕ → List ℕ
rows_from zero rows = rows
rows_from (suc k) rows = rows_from k (drop 4 rows)

abbrev bodies_from : ℕ → List ℕ → List ℕ → List ℕ
bodies_from zero rows bodies = bodies
bodies_from (suc k) rows bodies = bodies_from k (drop 4 rows) (drop (get_or rows 2 0 + get_or rows 3 0) bodies)

-- the first call of these is whole
abbrev FirstWhole : List ℕ → List ℕ → Type 0
FirstWhole rows bodies =
    let head : List ℕ = take (get_or rows 2 0) bodies in
    let d : Description = head_description (get_or rows 0 0) (get_or rows 1 0) head in
    let ops : List ℕ = operations_of (get_or rows 0 0) head in
    let b : List ℕ = lent_buffer (plain (get_or rows 0 0)) (get_or rows 1 0) head in
    let l : List ℕ = take (get_or rows 3 0) (drop (get_or rows 2 0) bodies) in
    WholeCall (check_of d ops (length b)) d ops b l (run_for d ops b l)

whole_at : (n k : ℕ) (rows bodies : List ℕ) → k < n → CallsWhole n rows bodies → FirstWhole (rows_from k rows) (bodies_from k rows bodies)
whole_at zero k rows bodies h w = absurd (omega arith)
whole_at (suc n) zero rows bodies h w = w.0
whole_at (suc n) (suc k) rows bodies h w = whole_at n k (drop 4 rows) (drop (body_size rows) bodies) (omega arith) w.1

text_asks_nothing : (κs : Lfts 2) (a : borrow.Fn.World.ArgsD text.signature κs) → text-reads.Asked κs a
text_asks_nothing κs a = tt

module _ (κs : Lfts 2) (a : borrow.Fn.World.ArgsD text.signature κs) (n : borrow.Fn.World.ResD text.signature κs)
    (x : denote.Triple.Clauses.AtExit (borrow.Fn.Kinds.ended_of 2 text-kinds.ps text-kinds.r) κs) (contract : text-reads.Post κs a n x) where
  abbrev file : List ℕ
  file = a.0.now

  abbrev form : Form
  form = a.1.0

  abbrev from : ℕ
  from = a.1.1.0

  abbrev out : List ℕ
  out = a.1.1.1.0.now

  abbrev out' : List ℕ
  out' = x.1.1.1.0.now

  abbrev shown : List ℕ
  shown = take (length out) (drop from (file_text form file))

  count-is : n ≡ length shown
  unfolding window_of
  count-is = ap (λ (s : Shown). s.count) contract.0

  out-is : out' ≡ shown ++ drop (length shown) out
  unfolding window_of
  out-is = ap (λ (s : Shown). s.bytes) contract.0

  -- as many bytes as the slice holds and the text has from there on
  pub count : n ≡ min (length out) (length (file_text form file) - from)
  count = omega (arith, count-is, length-take (length out) (drop from (file_text form file)), length-drop from (file_text form file))

  -- byte i of them is byte from + i of the text, in the form asked for
  pub text_bytes : (i : ℕ) → i < n → get_or out' i 0 ≡ get_or (file_text form file) (from + i) 0
  text_bytes i h =
      let h' : i < length shown = omega (arith, h, count-is) in
      ap (λ (l : List ℕ). get_or l i 0) out-is ∙ get_or-append shown (drop (length shown) out) 0 i h'
      ∙ get_or-take (length out) (drop from (file_text form file)) i 0 (omega (arith, h, count)) ∙ get_or-drop from (file_text form file) i 0

  -- the slice's other bytes are as they were
  pub other_bytes : (i : ℕ) → n ≤ i → get_or out' i 0 ≡ get_or out i 0
  other_bytes i h =
      let e : length shown + (i - length shown) ≡ i = omega (arith, h, count-is) in
      ap (λ (l : List ℕ). get_or l i 0) out-is ∙ ap (λ (k : ℕ). get_or (shown ++ drop (length shown) out) k 0) (sym e)
      ∙ get_or-append-add shown (drop (length shown) out) (i - length shown) 0 ∙ get_or-drop (length shown) out (i - length shown) 0
      ∙ ap (λ (k : ℕ). get_or out k 0) e

  pub same_length : length out' ≡ length out
  same_length =
      omega (
        arith,
        ap length out-is,
        length-append shown (drop (length shown) out),
        length-drop (length shown) out,
        length-take (length out) (drop from (file_text form file)),
      )

  -- ---- The runs that the text of a right file shows are whole: run k of the table, whose row and body come first in these
  module _ (right : file_wrong file ≡ false) (k : ℕ) (some : k < get_or (words_in file) 0 0) where
    abbrev words : List ℕ
    words = drop 1 (words_in file)

    abbrev rows : List ℕ
    rows = rows_from k words

    abbrev bodies : List ℕ
    bodies = bodies_from k words (drop (4 * get_or (words_in file) 0 0) words)

    abbrev head : List ℕ
    head = take (get_or rows 2 0) bodies

    abbrev d : Description
    d = head_description (get_or rows 0 0) (get_or rows 1 0) head

    abbrev ops : List ℕ
    ops = operations_of (get_or rows 0 0) head

    abbrev b : List ℕ
    b = lent_buffer (plain (get_or rows 0 0)) (get_or rows 1 0) head

    abbrev l : List ℕ
    l = take (get_or rows 3 0) (drop (get_or rows 2 0) bodies)

    abbrev R : Run
    R = run_for d ops b l

    is_whole : WholeCall (check_of d ops (length b)) d ops b l R
    is_whole = whole_at (get_or (words_in file) 0 0) k words (drop (4 * get_or (words_in file) 0 0) words) some (contract.1 right)

    -- an accepted call: any number of accesses more, and the uncut run stays what is shown; it has ended, or waits for an answer
    pub run_whole : (c : Call) → check_of d ops (length b) ≡ Ok c → (m : ℕ) → length R.entries ≤ m →
        let q : Request = request_of c d ops (length b) in
        uncut_of q m (begin_of q) b l ≡ record { saved = R.saved; buffer = R.buffer; log = R.entries }
    run_whole c e m h = (subst (λ (v : Result Call Refusal). WholeCall v d ops b l R) e is_whole).run m h

    pub run_over : (c : Call) → check_of d ops (length b) ≡ Ok c →
        let q : Request = request_of c d ops (length b) in
        R.report ≡ stop_at R.saved.outcome (next_of (access_of q R.buffer R.saved))
    run_over c e = (subst (λ (v : Result Call Refusal). WholeCall v d ops b l R) e is_whole).report

    pub run_answers : (c : Call) → check_of d ops (length b) ≡ Ok c → answers_in R.entries ≡ take R.used l
    run_answers c e = (subst (λ (v : Result Call Refusal). WholeCall v d ops b l R) e is_whole).answers

    -- a refused one
    pub run_refused : (r : Refusal) → check_of d ops (length b) ≡ Err r → R ≡ stops (Refused r) no_call b
    run_refused r e = subst (λ (v : Result Call Refusal). WholeCall v d ops b l R) e is_whole
