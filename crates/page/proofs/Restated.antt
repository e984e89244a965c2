-- What the contracts of `lay_out`, `fault_in`, `put_entries`, `refusal` and `length` give a caller, and what is promised of
-- pages, once more and in plain numbers. Nothing rests on this file: a contract or a promise that loses a part, and its proof with it,
-- fails here. Assumes nothing.
use Rattle.std.specs.Prelude.{Option, Some, None, Ok, Err}
use Prim.Native.Nat.{ℕ, zero, suc, ◌+◌, ◌-◌, ◌*◌, ◌/◌, ◌%◌, ◌≤◌, ◌<◌}
use native.Mathlib.Nat.{add-zero}
use native.Mathlib.Omega.{arith}
use mathlib.Core.Logic.{◌≢◌}
use mathlib.Core.Path.{◌≡◌, refl, sym, ap, ap₂, ◌∙◌}
use mathlib.Core.Bool.{Bool, true, false, cond, ◌||◌}
use mathlib.Core.List.{List, [], ◌∷◌, ◌++◌, map, append_assoc}
use lib.Dec.{eqb, leb}
use lib.ListN.{length, get_or, take, drop, length-append, length-drop, get_or-append}
use lib.Seq.{take_all, take-append_seam, drop-append_seam, get_or-append-add}
use borrow.Author.Tests.{le-leb, eq-eqb, ne_eqb, eqb-true, leb-true, leb-false}
use borrow.Fn.World
use contract.Lifetimes.{Lfts}
use denote.Triple.Clauses.{Ended, AtExit}
use denote.Triple.Entry.{Args, Res}
use Rattle.fields.specs.Field.{bits_at, get_of}
use Rattle.numerals.specs.Numbers.{digit_of, hex_digit_of, spelled_of}
use Rattle.numerals.specs.Words.{is_blank}
use Rattle.registers.specs.Fields.{registers}
use Rattle.registers.specs.Map.{offset_of}
use Rattle.registers.specs.declared.Register.{Register}
use Rattle.registers.specs.declared.Register.TheVariants.{Cr1, Cr2, Oar1, Oar2, Timingr, Isr, Icr, Rxdr, Txdr}
use Rattle.window.proofs.Laid.{then, emit_none, windowed}
use Rattle.window.specs.Codes.{codes}
use Rattle.window.specs.Window.{Shown, laid, start_of, emit_of, window_of}
use Rattle.window.specs.declared.Cursor.{Cursor}
use Rattle.words.proofs.Turns.{in_words}
use Rattle.words.specs.Words.{words_in, Below}
use Rattle.page.specs.Back.{field_columns, worth, value_in}
use Rattle.page.specs.Page.{access_in, access_of, filled, head_of, lines_from, entry_lines, lines_of, text_of, entries_text, page_of, is_known, fault_from, fault_of, Left, left, page_in, page_refusal, page_length}
use Rattle.page.specs.Promises.{Printable, Lines, EachKnown}
use Rattle.page.specs.Tokens.{flag_tokens, bit_tokens, tokens_below}
use Rattle.page.proofs.Promised.{page_promises}
use Rattle.page.proofs.Same.{text_append, entries}
use Rattle.page.specs.contracts.fault_in as fault-in
use Rattle.page.proofs.fault_in.Reads as fault-in-reads
use Rattle.page.specs.contracts.lay_out as lay-out
use Rattle.page.proofs.lay_out.Reads as lay-out-reads
use Rattle.page.specs.contracts.put_entries as put_entries
use Rattle.page.proofs.put_entries.Reads as put-entries-reads
use Rattle.page.specs.contracts.refusal as refusal
use Rattle.page.proofs.refusal.Reads as refusal-reads
use Rattle.page.specs.contracts.length as page-length
use Rattle.page.proofs.length.Reads as page-length-reads
use Rattle.page.specs.declared.Access.{Access}
use Rattle.page.specs.declared.Access.TheVariants.{Read, Write}
use Rattle.page.specs.declared.Fault.TheVariants.{NotWhole, UnknownCode}

-- ---- No function asks anything of its caller.

fault_in_asks_nothing : (κs : Lfts 1) (a : borrow.Fn.World.ArgsD fault-in.signature κs) → fault-in-reads.Asked κs a
fault_in_asks_nothing κs a = tt

lay_out_asks_nothing : (κs : Lfts 2) (a : borrow.Fn.World.ArgsD lay-out.signature κs) → lay-out-reads.Asked κs a
lay_out_asks_nothing κs a = tt

put_entries_asks_nothing : (κs : Lfts 2) (a : borrow.Fn.World.ArgsD put_entries.signature κs) → put-entries-reads.Asked κs a
put_entries_asks_nothing κs a = tt

refusal_asks_nothing : (κs : Lfts 0) (a : borrow.Fn.World.ArgsD refusal.signature κs) → refusal-reads.Asked κs a
refusal_asks_nothing κs a = tt

length_asks_nothing : (κs : Lfts 0) (a : borrow.Fn.World.ArgsD page-length.signature κs) → page-length-reads.Asked κs a
length_asks_nothing κs a = tt

-- ---- A call that came back: its arguments, its result, the parameters at its end, and that the contract holds of them (`driver`'s, on which
-- this crate does not rest).

module _ (T : Ended) (Post : (κs : Lfts T.signature.lifetimes) → Args T.signature κs → Res T.signature κs → AtExit T κs → Type 0) where
  record CameBack : Type 0 where
    lifetimes : Lfts T.signature.lifetimes
    given : Args T.signature lifetimes
    gave : Res T.signature lifetimes
    left : AtExit T lifetimes
    contract : Post lifetimes given gave left

abbrev FaultCall : Type 0
FaultCall = CameBack fault-in.ended fault-in-reads.Post

abbrev LayCall : Type 0
LayCall = CameBack lay-out.ended lay-out-reads.Post

abbrev PutCall : Type 0
PutCall = CameBack put_entries.ended put-entries-reads.Post

abbrev RefusalCall : Type 0
RefusalCall = CameBack refusal.ended refusal-reads.Post

abbrev LengthCall : Type 0
LengthCall = CameBack page-length.ended page-length-reads.Post

-- ---- The codes of the nine registers, for a read and for a write.

one_of : ℕ → List ℕ → Bool
one_of c [] = false
one_of c (x ∷ xs) = eqb c x || one_of c xs

is_code : ℕ → Bool
is_code c =
    one_of c (0x00 ∷ 0x100 ∷ 0x04 ∷ 0x104 ∷ 0x08 ∷ 0x108 ∷ 0x0C ∷ 0x10C ∷ 0x10 ∷ 0x110 ∷ 0x18 ∷ 0x118 ∷ 0x1C ∷ 0x11C ∷ 0x24 ∷ 0x124 ∷ 0x28 ∷ 0x128 ∷ [])

abbrev codes_of : List Register → List ℕ
codes_of [] = []
codes_of (r ∷ rs) = offset_of r ∷ (offset_of r + 0x100) ∷ codes_of rs

among : (c : ℕ) (rs : List Register) → is_known (access_in c rs) ≡ one_of c (codes_of rs)
unfolding one_of
among c [] = refl
among c (r ∷ rs) = by (eqb c (offset_of r)) (eqb c (offset_of r + 0x100)) (among c rs)
  where
    by : (p q : Bool) → is_known (access_in c rs) ≡ one_of c (codes_of rs) →
        is_known (cond p (Some (Read r)) (cond q (Some (Write r)) (access_in c rs))) ≡ (p || (q || one_of c (codes_of rs)))
    by true q e = refl
    by false true e = refl
    by false false e = e

is_code_holds : (c : ℕ) → is_known (access_of c) ≡ is_code c
unfolding access_of is_code one_of
is_code_holds c = among c registers

-- an even number of words, and every other one, from the first on, is a code
record Known (log : List ℕ) : Type 0 where
  even : length log % 2 ≡ 0
  coded : (i : ℕ) → 2 * i < length log → is_code (get_or log (2 * i) 0) ≡ true

known : (log : List ℕ) → EachKnown log → Known log
known [] k = record { even = refl; coded = λ i h. absurd (omega arith) }
known (w ∷ []) k = absurd k
known (code ∷ value ∷ log) k =
    let K = known log k.1 in
    record { even = omega (arith, K.even); coded = go K.coded }
  where
    go : ((i : ℕ) → 2 * i < length log → is_code (get_or log (2 * i) 0) ≡ true) →
        (i : ℕ) → 2 * i < length (code ∷ value ∷ log) → is_code (get_or (code ∷ value ∷ log) (2 * i) 0) ≡ true
    go f zero h = sym (is_code_holds code) ∙ k.0
    go f (suc i) h = (let e : 2 * suc i ≡ suc (suc (2 * i)) = omega arith in rw e (f i (omega arith)))

each_known : (log : List ℕ) → Known log → EachKnown log
each_known [] K = tt
each_known (w ∷ []) K = absurd (omega (arith, K.even))
each_known (code ∷ value ∷ log) K = (
  is_code_holds code ∙ K.coded 0 (omega arith),
  each_known log (record {
    even = omega (arith, K.even);
    coded = λ i h. let e : 2 * suc i ≡ suc (suc (2 * i)) = omega arith in rw e at (K.coded (suc i) (omega arith));
  }),
)

-- ---- What is wrong with a log: it ends within an entry, or an entry has none of these codes, and then the first such entry counts.

faults : (n k : ℕ) (ws : List ℕ) → 2 * k + 1 < length ws → ((i : ℕ) → i < k → is_code (get_or ws (2 * i) 0) ≡ true) → is_code (get_or ws (2 * k) 0) ≡ false →
    fault_from n ws ≡ Err (UnknownCode (n + k))
unfolding fault_from
faults n k [] h f u = absurd (omega arith)
faults n k (w ∷ []) h f u = absurd (omega arith)
faults n zero (code ∷ value ∷ ws) h f u = rw (is_code_holds code, u, add-zero)
faults n (suc k) (code ∷ value ∷ ws) h f u =
    let e : 2 * suc k ≡ suc (suc (2 * k)) = omega arith in
    let m : n + 1 + k ≡ n + suc k = omega arith in
    let g : (i : ℕ) → i < k → is_code (get_or ws (2 * i) 0) ≡ true =
    λ i l. (let d : 2 * suc i ≡ suc (suc (2 * i)) = omega arith in rw d at (f (suc i) (omega arith))) in
    rw (is_code_holds code, f 0 (omega arith)) (rw m at (faults (n + 1) k ws (omega arith) g (rw e at u)))

module _ (C : FaultCall) where
  abbrev bytes : List ℕ
  bytes = C.given.0.now

  not_whole : length bytes % 8 ≢ 0 → C.gave ≡ Err NotWhole
  unfolding fault_of
  not_whole h = C.contract ∙ rw (ne_eqb (length bytes % 8) 0 h)

  twelve : length bytes ≡ 12 → C.gave ≡ Err NotWhole
  twelve h = not_whole (λ e. omega arith)

  -- entry k + 1 is the first with another code
  no_code : (k : ℕ) → length bytes % 8 ≡ 0 → k < length bytes / 8 → ((i : ℕ) → i < k → is_code (get_or (words_in bytes) (2 * i) 0) ≡ true) →
      is_code (get_or (words_in bytes) (2 * k) 0) ≡ false → C.gave ≡ Err (UnknownCode (1 + k))
  unfolding fault_of
  no_code k h l f u = C.contract ∙ rw (eq-eqb (length bytes % 8) 0 h) (faults 1 k (words_in bytes) (omega (arith, in_words bytes)) f u)

  sound : length bytes % 8 ≡ 0 → Known (words_in bytes) → C.gave ≡ Ok tt
  unfolding fault_of
  sound h K = C.contract ∙ rw (eq-eqb (length bytes % 8) 0 h) (page_promises.only_so 1 (words_in bytes) (each_known (words_in bytes) K))

  only_so : C.gave ≡ Ok tt → (length bytes % 8 ≡ 0) × Known (words_in bytes)
  unfolding fault_of
  only_so e = by (eqb (length bytes % 8) 0) (eqb-true (length bytes % 8) 0) (sym C.contract ∙ e)
    where
      by : (b : Bool) → (b ≡ true → length bytes % 8 ≡ 0) → cond b (fault_from 1 (words_in bytes)) (Err NotWhole) ≡ Ok tt → (length bytes % 8 ≡ 0) × Known (words_in bytes)
      by true h f = (h refl, known (words_in bytes) (page_promises.sound 1 (words_in bytes) f))
      by false h f = let z : ◌≡◌ {A = ℕ} 0 1 = cc in absurd (omega arith)

-- ---- The characters of a text: each line is 80 printable ones and a line feed (10). An entry takes 405 at most.

few_bytes : (n : ℕ) (log : List ℕ) → length (entries_text n log) ≤ 405 * (length log / 2)
unfolding lines_of text_of
few_bytes n [] = omega arith
few_bytes n (w ∷ []) = omega arith
few_bytes n (code ∷ value ∷ log) =
    omega (arith, simp length-append at (ap length (entries n code value log)), page_promises.few_lines n code value, few_bytes (n + 1) log)

lines_long : (ls : List (List ℕ)) → Lines ls → length (text_of ls) ≡ 81 * length ls
unfolding text_of
lines_long [] h = refl
lines_long (l ∷ ls) h = simp length-append (omega (arith, h.0, lines_long ls h.2))

printable : (s : List ℕ) (i : ℕ) → Printable s → i < length s → (32 ≤ get_or s i 0) × (get_or s i 0 < 127)
printable [] i p h = absurd (omega arith)
printable (c ∷ s) zero p h = (p.0, p.1)
printable (c ∷ s) (suc i) p h = printable s i p.2 (omega arith)

-- a character that i others of its line stand before
InLine : ℕ → ℕ → Type 0
InLine i c = (i < 80 → (32 ≤ c) × (c < 127)) × (i ≡ 80 → c ≡ 10)

in_line : (k i : ℕ) (ls : List (List ℕ)) → Lines ls → k < length ls → i < 81 → InLine i (get_or (text_of ls) (81 * k + i) 0)
unfolding text_of InLine
in_line k i [] h l m = absurd (omega arith)
in_line zero i (s ∷ ls) h l m =
    let e : 81 * 0 + i ≡ i = omega arith in
    rw (e, get_or-append (s ++ codes "\n") (text_of ls) 0 i (simp length-append (omega (arith, h.0)))) (
      (λ q. rw (get_or-append s (codes "\n") 0 i (omega (arith, h.0))) (printable s i h.1 (omega (arith, h.0)))),
      (λ q. let d : i ≡ length s + 0 = omega (arith, h.0) in rw (d, get_or-append-add)),
    )
in_line (suc k) i (s ∷ ls) h l m =
    let e : 81 * suc k + i ≡ length (s ++ codes "\n") + (81 * k + i) = simp length-append (omega (arith, h.0)) in
    rw (e, get_or-append-add) (in_line k i ls h.2 (omega arith) m)

module _ (n : ℕ) (log : List ℕ) where
  abbrev text : List ℕ
  text = entries_text n log

  long : length text ≡ 81 * length (lines_of n log)
  long = lines_long (lines_of n log) (page_promises.columns n log)

  whole_lines : length text % 81 ≡ 0
  whole_lines = omega (arith, long)

  characters : (j : ℕ) → j < length text → InLine (j % 81) (get_or text j 0)
  characters j h =
      let e : 81 * (j / 81) + j % 81 ≡ j = omega arith in
      rw e at (in_line (j / 81) (j % 81) (lines_of n log) (page_promises.columns n log) (omega (arith, long)) (omega arith))

-- ---- Two small pages: of no entry, and of a write of 0 to ICR.

no_page : (out : List ℕ) → page_in [] out ≡ left (Some 0) out
unfolding page_in fault_of fault_from words_in lines_of text_of
no_page out = rw (le-leb 0 (length out) (omega arith))

icr_page : (out : List ℕ) (n : ℕ) → length out ≡ n → (page_in (0x1C ∷ 0x01 ∷ 0 ∷ 0 ∷ 0 ∷ 0 ∷ 0 ∷ 0 ∷ []) out).page ≡ cond (leb 81 n) (Some 81) None
unfolding page_in fault_of fault_from words_in access_of lines_of entry_lines head_of lines_from text_of tokens_below bit_tokens flag_tokens get_of bits_at spelled_of hex_digit_of
icr_page out n e = rw e (by (leb 81 n) _)
  where
    by : (b : Bool) (l : List ℕ) → (cond b (left (Some 81) l) (left None out)).page ≡ cond b (Some 81) None
    by true l = refl
    by false l = refl

-- ---- A page laid out: its length, its bytes, and those after it as they were lent; or refused, and each byte as it was lent. It is refused
-- exactly if the entries are not whole, a code is another, or the page is longer than the buffer.

module _ (C : LayCall) where
  abbrev log : List ℕ
  log = C.given.0.now

  abbrev out : List ℕ
  out = C.given.1.0.now

  abbrev out' : List ℕ
  out' = C.left.1.0.now

  abbrev page : List ℕ
  page = page_of (words_in log)

  gave_page : C.gave ≡ (page_in log out).page
  gave_page = ap (λ (L : Left). L.page) C.contract

  left_buffer : out' ≡ (page_in log out).buffer
  left_buffer = ap (λ (L : Left). L.buffer) C.contract

  accepted : length log % 8 ≡ 0 → Known (words_in log) → length page ≤ length out →
      (C.gave ≡ Some (length page)) × (out' ≡ page ++ drop (length page) out)
  accepted h K l =
      let e = page_promises.accepted log out h (each_known (words_in log) K) l in
      (gave_page ∙ ap (λ (L : Left). L.page) e, left_buffer ∙ ap (λ (L : Left). L.buffer) e)

  only_then : (n : ℕ) → C.gave ≡ Some n → (length log % 8 ≡ 0) × Known (words_in log) × (length page ≤ length out)
  only_then n e =
      let z = page_promises.only_then log out n (sym gave_page ∙ e) in
      (z.0, known (words_in log) z.1, z.2)

  laid_out_holds : (n : ℕ) → C.gave ≡ Some n → (n ≡ length page) × (n ≤ length out) × (out' ≡ page ++ drop n out)
  laid_out_holds n e =
      let z = only_then n e in
      let a = accepted z.0 z.1 z.2 in
      let f : C.gave ≡ Some (length page) = a.0 in
      let m : n ≡ length page = cc in
      (m, rw m z.2, rw m a.1)

  its_bytes : (n : ℕ) → C.gave ≡ Some n → take n out' ≡ page
  its_bytes n e =
      let l = laid_out_holds n e in
      ap (take n) l.2 ∙ rw l.0 (take-append_seam page (drop (length page) out))

  bytes_after : (n : ℕ) → C.gave ≡ Some n → (length out' ≡ length out) × (drop n out' ≡ drop n out)
  bytes_after n e =
      let l = laid_out_holds n e in (
        ap length l.2 ∙ simp (length-append, length-drop) (omega (arith, l.0, l.1)),
        ap (drop n) l.2 ∙ rw l.0 (drop-append_seam page (drop (length page) out)),
      )

  bytes_as_lent : C.gave ≡ None → out' ≡ out
  bytes_as_lent e = left_buffer ∙ page_promises.unchanged log out (sym gave_page ∙ e)

  why_refused : C.gave ≡ None → length log % 8 ≡ 0 → Known (words_in log) → length out < length page
  why_refused e h K = by (leb (length page) (length out)) refl
    where
      by : (b : Bool) → leb (length page) (length out) ≡ b → length out < length page
      by true t =
          let f : C.gave ≡ Some (length page) = (accepted h K (leb-true (length page) (length out) t)).0 in
          let z : ◌≡◌ {A = ℕ} 0 1 = cc in
          absurd (omega arith)
      by false t = leb-false (length page) (length out) t

  -- 405 bytes for each entry are room enough
  room_enough : length log % 8 ≡ 0 → Known (words_in log) → 405 * (length log / 8) ≤ length out → C.gave ≡ Some (length page)
  room_enough h K l = (accepted h K (omega (arith, few_bytes 1 (words_in log), in_words log))).0

  -- an empty log has an empty page, which an empty buffer holds
  empty_log : log ≡ [] → (C.gave ≡ Some 0) × (out' ≡ out)
  empty_log e =
      let f : page_in log out ≡ left (Some 0) out = ap (λ (l : List ℕ). page_in l out) e ∙ no_page out in
      (gave_page ∙ ap (λ (L : Left). L.page) f, left_buffer ∙ ap (λ (L : Left). L.buffer) f)

  -- a write of 0 to ICR takes one line: 81 bytes are enough, 80 are not
  one_line : log ≡ 0x1C ∷ 0x01 ∷ 0 ∷ 0 ∷ 0 ∷ 0 ∷ 0 ∷ 0 ∷ [] → (length out ≡ 81 → C.gave ≡ Some 81) × (length out ≡ 80 → C.gave ≡ None)
  one_line e =
      let f : C.gave ≡ (page_in (0x1C ∷ 0x01 ∷ 0 ∷ 0 ∷ 0 ∷ 0 ∷ 0 ∷ 0 ∷ []) out).page = gave_page ∙ ap (λ (l : List ℕ). (page_in l out).page) e in
      (λ l. f ∙ icr_page out 81 l, λ l. f ∙ icr_page out 80 l)

-- two calls that laid out the same page were lent the same log
same_page : (C D : LayCall) (n : ℕ) → C.gave ≡ Some n → D.gave ≡ Some n → take n (out' C) ≡ take n (out' D) →
    Below 256 (log C) → Below 256 (log D) → log C ≡ log D
unfolding fault_of
same_page C D n e f s h l =
    page_promises.same_bytes (log C) (log D) h l (sound C n e) (sound D n f) (sym (its_bytes C n e) ∙ s ∙ its_bytes D n f)
  where
    sound : (C : LayCall) (n : ℕ) → C.gave ≡ Some n → fault_of (log C) ≡ Ok tt
    sound C n e =
        let z = only_then C n e in
        rw (eq-eqb (length (log C) % 8) 0 z.0) (page_promises.only_so 1 (words_in (log C)) (each_known (words_in (log C)) z.1))

-- ---- The numbers of an answer: 0 and the page's length, or 15 and 0.

refusal_number_holds : (C : RefusalCall) → ((n : ℕ) → C.given.0 ≡ Some n → C.gave ≡ 0) × (C.given.0 ≡ None → C.gave ≡ 15)
refusal_number_holds C = (λ n e. C.contract ∙ ap page_refusal e, λ e. C.contract ∙ ap page_refusal e)

length_number : (C : LengthCall) → ((n : ℕ) → C.given.0 ≡ Some n → C.gave ≡ n) × (C.given.0 ≡ None → C.gave ≡ 0)
length_number C = (λ n e. C.contract ∙ ap page_length e, λ e. C.contract ∙ ap page_length e)

-- ---- Entries put into a window, the first with a number that is asked for.

append_lines : (n k : ℕ) (ws vs : List ℕ) → length ws ≡ 2 * k → lines_of n (ws ++ vs) ≡ lines_of n ws ++ lines_of (n + k) vs
unfolding lines_of
append_lines n k [] vs h = (let e : n + k ≡ n = omega arith in rw e)
append_lines n k (w ∷ []) vs h = absurd (omega arith)
append_lines n k (code ∷ value ∷ ws) vs h =
    let e : n + 1 + (k - 1) ≡ n + k = omega arith in
    let f = rw e at (append_lines (n + 1) (k - 1) ws vs (omega arith)) in
    rw f (sym (append_assoc (entry_lines n code value) (lines_of (n + 1) ws) (lines_of (n + k) vs)))

append_text : (n k : ℕ) (ws vs : List ℕ) → length ws ≡ 2 * k → entries_text n (ws ++ vs) ≡ entries_text n ws ++ entries_text (n + k) vs
append_text n k ws vs h = ap text_of (append_lines n k ws vs h) ∙ text_append (lines_of n ws) (lines_of (n + k) vs)

not_known : (a : Option Access) → is_known a ≡ false → a ≡ None
not_known (Some (Read r)) e = let z : ◌≡◌ {A = ℕ} 0 1 = cc in absurd (omega arith)
not_known (Some (Write r)) e = let z : ◌≡◌ {A = ℕ} 0 1 = cc in absurd (omega arith)
not_known None e = refl

no_text : (n code value : ℕ) → is_code code ≡ false → entries_text n (code ∷ value ∷ []) ≡ []
unfolding lines_of entry_lines text_of
no_text n code value h = (let e : access_of code ≡ None = not_known (access_of code) (is_code_holds code ∙ h) in rw e)

late_text : entries_text 1000000 (0x11C ∷ 0 ∷ []) ≡ filled 80 (codes "000000 write ICR     00000000") ++ codes "\n"
unfolding lines_of entry_lines access_of head_of lines_from text_of tokens_below bit_tokens flag_tokens get_of bits_at spelled_of hex_digit_of
late_text = refl

module _ (C : PutCall) where
  abbrev start : Cursor
  start = C.given.0

  abbrev first : ℕ
  first = C.given.1.0

  abbrev words : List ℕ
  words = C.given.1.1.0.now

  abbrev room : List ℕ
  room = C.given.1.1.1.0.now

  abbrev room' : List ℕ
  room' = C.left.1.1.1.0.now

  abbrev lines : List ℕ
  lines = entries_text first words

  -- at the start of a window that shows the text from byte `from` on, the window is filled
  in_window : (from : ℕ) → start ≡ start_of from →
      let shown : List ℕ = take (length room) (drop from lines) in (C.gave.at ≡ length shown) × (room' ≡ shown ++ drop (length shown) room)
  unfolding window_of
  in_window from e =
      let w = windowed from lines room (laid C.gave room') (C.contract ∙ ap (λ (p : Cursor). emit_of lines (laid p room)) e) in
      (ap (λ (S : Shown). S.count) w, ap (λ (S : Shown). S.bytes) w)

  in_room : start ≡ start_of 0 → length lines ≤ length room → (C.gave.at ≡ length lines) × (room' ≡ lines ++ drop (length lines) room)
  in_room e h =
      let w = in_window 0 e in
      let t = take_all (length room) lines h in
      (w.0 ∙ ap length t, w.1 ∙ rw t)

  -- of entry 1,000,000 the last six digits are shown
  late_entry : first ≡ 1000000 → words ≡ 0x11C ∷ 0 ∷ [] → start ≡ start_of 0 → 81 ≤ length room → take 6 room' ≡ codes "000000"
  late_entry e f s h =
      let t : lines ≡ filled 80 (codes "000000 write ICR     00000000") ++ codes "\n" = ap₂ entries_text e f ∙ late_text in
      ap (take 6) ((in_room s (omega (arith, ap length t))).1 ∙ ap (λ (l : List ℕ). l ++ drop (length lines) room) t)

  -- an entry with another code has no line
  no_line : (code value : ℕ) → words ≡ code ∷ value ∷ [] → is_code code ≡ false → laid C.gave room' ≡ laid start room
  no_line code value e h =
      let t : lines ≡ [] = ap (entries_text first) e ∙ no_text first code value h in
      C.contract ∙ ap (λ (l : List ℕ). emit_of l (laid start room)) t ∙ emit_none (laid start room)

-- entries put in two calls, the second from where the first ended, are put as in one
in_two_calls : (A B C : PutCall) (k : ℕ) → length (words A) ≡ 2 * k → first B ≡ first A + k → laid (start B) (room B) ≡ laid A.gave (room' A) →
    first C ≡ first A → words C ≡ words A ++ words B → laid (start C) (room C) ≡ laid (start A) (room A) →
    laid C.gave (room' C) ≡ laid B.gave (room' B)
in_two_calls A B C k h n b m l c =
    C.contract ∙ ap₂ emit_of (ap₂ entries_text m l ∙ append_text (first A) k (words A) (words B) h) c
    ∙ sym (then (lines A) (entries_text (first A + k) (words B)) (laid (start A) (room A)) (laid A.gave (room' A)) (laid B.gave (room' B)) A.contract
    (B.contract ∙ ap₂ emit_of (ap (λ (i : ℕ). entries_text i (words B)) n) b))

-- two calls that put the same text from entry 1 on, with room for it, were lent the same words
same_text : (C D : PutCall) → first C ≡ 1 → first D ≡ 1 → start C ≡ start_of 0 → start D ≡ start_of 0 →
    length (lines C) ≤ length (room C) → length (lines D) ≤ length (room D) →
    take C.gave.at (room' C) ≡ take D.gave.at (room' D) →
    Below 4294967296 (words C) → Below 4294967296 (words D) → Known (words C) → Known (words D) → words C ≡ words D
same_text C D e f p q h l t b c K M =
    page_promises.same_log (words C) (words D) b c (each_known (words C) K) (each_known (words D) M)
    (sym (its_text C e p h) ∙ t ∙ its_text D f q l)
  where
    its_text : (C : PutCall) → first C ≡ 1 → start C ≡ start_of 0 → length (lines C) ≤ length (room C) → take C.gave.at (room' C) ≡ page_of (words C)
    its_text C e p h =
        let w = in_room C p h in
        ap₂ take w.0 w.1 ∙ take-append_seam (lines C) (drop (length (lines C)) (room C)) ∙ ap (λ (n : ℕ). entries_text n (words C)) e

-- ---- The value of an entry by what stands from column 31 on.

reads : (r : Register) → access_of (offset_of r) ≡ Some (Read r)
unfolding access_of
reads Cr1 = refl
reads Cr2 = refl
reads Oar1 = refl
reads Oar2 = refl
reads Timingr = refl
reads Isr = refl
reads Icr = refl
reads Rxdr = refl
reads Txdr = refl

writes : (r : Register) → access_of (offset_of r + 0x100) ≡ Some (Write r)
unfolding access_of
writes Cr1 = refl
writes Cr2 = refl
writes Oar1 = refl
writes Oar2 = refl
writes Timingr = refl
writes Isr = refl
writes Icr = refl
writes Rxdr = refl
writes Txdr = refl

-- tokens as a fitter reads them: a name's place, a number at its name's place, a bit's number
by_hand : (value_in Cr2 (codes "bit31 PECBYTE AUTOEND NBYTES=255 START HEAD10R SADD=1023") ≡ 0x86FF33FF) × (value_in Oar2 (codes "OA2MSK=7 OA2=127 bit0") ≡ 0x7FF)
unfolding worth is_blank digit_of
by_hand = (refl, refl)

-- the columns of lines from column 31 on, one under the other
abbrev after_30 : List (List ℕ) → List (List ℕ)
after_30 = map (drop 30)

joined : List (List ℕ) → List ℕ
joined [] = []
joined (l ∷ ls) = l ++ codes "\n" ++ joined ls

as_joined : (ls : List (List ℕ)) → field_columns ls ≡ joined (after_30 ls)
unfolding joined
as_joined [] = refl
as_joined (l ∷ ls) = ap (λ (t : List ℕ). drop 30 l ++ codes "\n" ++ t) (as_joined ls)

-- two reads, or two writes, of a register that look the same there are of the same value
module _ (r : Register) (n m v w : ℕ) (h : v < 4294967296) (l : w < 4294967296) where
  same_read : after_30 (entry_lines n (offset_of r) v) ≡ after_30 (entry_lines m (offset_of r) w) → v ≡ w
  same_read e =
      sym (page_promises.value_read n (offset_of r) v r h (reads r))
      ∙ ap (value_in r) (as_joined (entry_lines n (offset_of r) v) ∙ ap joined e ∙ sym (as_joined (entry_lines m (offset_of r) w)))
      ∙ page_promises.value_read m (offset_of r) w r l (reads r)

  same_write : after_30 (entry_lines n (offset_of r + 0x100) v) ≡ after_30 (entry_lines m (offset_of r + 0x100) w) → v ≡ w
  same_write e =
      sym (page_promises.value_written n (offset_of r + 0x100) v r h (writes r))
      ∙ ap (value_in r) (as_joined (entry_lines n (offset_of r + 0x100) v) ∙ ap joined e ∙ sym (as_joined (entry_lines m (offset_of r + 0x100) w)))
      ∙ page_promises.value_written m (offset_of r + 0x100) w r l (writes r)
