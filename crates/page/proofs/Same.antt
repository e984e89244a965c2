-- Two logs with equal pages are the same log. Assumes nothing.
use Rattle.std.specs.Prelude.{Option, Some, None, Ok, Err}
use Prim.Native.Nat.{ℕ, ◌+◌, ◌-◌, ◌/◌, ◌%◌, ◌^◌, ◌<◌}
use native.Mathlib.Omega.{arith}
use mathlib.Core.Path.{◌≡◌, refl, sym, ap, ap₂, ◌∙◌}
use mathlib.Core.Bool.{Bool, true, false, cond}
use mathlib.Core.List.{List, [], ◌∷◌, ◌++◌, append_assoc}
use lib.Dec.{eqb, leb}
use lib.ListN.{length, length-append}
use borrow.Author.Tests.{eqb-true}
use Rattle.numerals.specs.Numbers.{spelled_of, hex_of}
use Rattle.registers.specs.Fields.{registers, register_name}
use Rattle.registers.specs.Map.{offset_of}
use Rattle.registers.specs.declared.Register.{Register}
use Rattle.registers.specs.declared.Register.TheVariants.{Cr1, Cr2, Oar1, Oar2, Timingr, Isr, Icr, Rxdr, Txdr}
use Rattle.window.specs.Codes.{codes}
use Rattle.words.specs.Words.{words_in, bytes_of, Below}
use Rattle.words.proofs.Round.{whole_words, bytes_make_words}
use Rattle.page.specs.Back.{same}
use Rattle.page.specs.Page.{access_in, access_of, spaces, filled, head_of, lines_from, access_lines, entry_lines, lines_of, text_of, entries_text, page_of, is_known, fault_from, fault_of}
use Rattle.page.specs.Promises.{EachKnown}
use Rattle.page.specs.Tokens.{Token, tokens_of}
use Rattle.page.proofs.Lines.{Name, name_by, name_of, length_head}
use Rattle.page.proofs.Sound.{sound}
use Rattle.page.proofs.Spelled.{same_parts, same_spelled}
use Rattle.page.proofs.Texts.{length_filled}
use Rattle.page.specs.declared.Access.{Access}
use Rattle.page.specs.declared.Access.TheVariants.{Read, Write}
use Rattle.page.specs.declared.Fault.TheVariants.{NotWhole}

-- ---- an entry's text begins with its head
pub text_append : (ls ms : List (List ℕ)) → text_of (ls ++ ms) ≡ text_of ls ++ text_of ms
unfolding text_of
text_append [] ms = refl
text_append (l ∷ ls) ms = rw (text_append ls ms) (sym (append_assoc (l ++ codes "\n") (text_of ls) (text_of ms)))

record Begins (text front : List ℕ) : Type 0 where
  rest : List ℕ
  whole : text ≡ front ++ rest

full_begins : (line : List ℕ) (ls : List (List ℕ)) → Begins (text_of (filled 80 line ∷ ls)) line
unfolding text_of
full_begins line ls = record { rest = spaces (80 - length line) ++ codes "\n" ++ text_of ls; whole = simp append_assoc }

line_begins : (line : List ℕ) (ts : List Token) → Begins (text_of (lines_from line ts)) line
unfolding lines_from
line_begins line [] = full_begins line []
line_begins line (t ∷ ts) = by (leb (length line + (1 + length t)) 80) (line_begins (line ++ spaces 1 ++ t) ts)
  where
    by : (b : Bool) → Begins (text_of (lines_from (line ++ spaces 1 ++ t) ts)) (line ++ spaces 1 ++ t) →
        Begins (text_of (cond b (lines_from (line ++ spaces 1 ++ t) ts) (filled 80 line ∷ lines_from (spaces 30 ++ t) ts))) line
    by true h = record { rest = spaces 1 ++ t ++ h.rest; whole = h.whole ∙ simp append_assoc }
    by false h = full_begins line (lines_from (spaces 30 ++ t) ts)

-- what was done, where
abbrev done_of : Option Access → List ℕ
done_of (Some (Read r)) = codes "read"
done_of (Some (Write r)) = codes "write"
done_of None = []

abbrev register_in : Option Access → Register
register_in (Some (Read r)) = r
register_in (Some (Write r)) = r
register_in None = Cr1

abbrev head_for : ℕ → Option Access → ℕ → List ℕ
head_for n a value = head_of n (done_of a) (register_in a) value

access_begins : (n : ℕ) (a : Option Access) (value : ℕ) → is_known a ≡ true → Begins (text_of (access_lines n a value)) (head_for n a value)
access_begins n (Some (Read r)) value k = line_begins (head_of n (codes "read") r value) (tokens_of r value)
access_begins n (Some (Write r)) value k = line_begins (head_of n (codes "write") r value) (tokens_of r value)
access_begins n None value k = let z : ◌≡◌ {A = ℕ} 0 1 = cc in absurd (omega arith)

-- ---- a head tells the code: the register's by its name, and a write's is 0x100 above
abbrev code_of : Option Access → ℕ
code_of (Some (Read r)) = offset_of r
code_of (Some (Write r)) = offset_of r + 0x100
code_of None = 0

known_code : (code : ℕ) (rs : List Register) → is_known (access_in code rs) ≡ true → code ≡ code_of (access_in code rs)
known_code code [] k = let z : ◌≡◌ {A = ℕ} 0 1 = cc in absurd (omega arith)
known_code code (r ∷ rs) k = by (eqb code (offset_of r)) (eqb code (offset_of r + 0x100)) refl refl k (known_code code rs)
  where
    by : (b c : Bool) → eqb code (offset_of r) ≡ b → eqb code (offset_of r + 0x100) ≡ c → is_known (cond b (Some (Read r)) (cond c (Some (Write r)) (access_in code rs))) ≡ true →
        (is_known (access_in code rs) ≡ true → code ≡ code_of (access_in code rs)) → code ≡ code_of (cond b (Some (Read r)) (cond c (Some (Write r)) (access_in code rs)))
    by true c p q l f = eqb-true code (offset_of r) p
    by false true p q l f = eqb-true code (offset_of r + 0x100) q
    by false false p q l f = f l

abbrev offset_for : List ℕ → List Register → ℕ
offset_for name [] = 0
offset_for name (r ∷ rs) = cond (same name (filled 7 (codes (register_name r)))) (offset_of r) (offset_for name rs)

abbrev code_for : List ℕ → List ℕ → ℕ
code_for done name = cond (same done (codes "write")) (offset_for name registers + 0x100) (offset_for name registers)

offset_told : (r : Register) → offset_for (filled 7 (codes (register_name r))) registers ≡ offset_of r
offset_told Cr1 = refl
offset_told Cr2 = refl
offset_told Oar1 = refl
offset_told Oar2 = refl
offset_told Timingr = refl
offset_told Isr = refl
offset_told Icr = refl
offset_told Rxdr = refl
offset_told Txdr = refl

code_told : (a : Option Access) → is_known a ≡ true → code_for (filled 5 (done_of a)) (filled 7 (codes (register_name (register_in a)))) ≡ code_of a
code_told (Some (Read r)) k = offset_told r
code_told (Some (Write r)) k = ap (λ (x : ℕ). x + 0x100) (offset_told r)
code_told None k = let z : ◌≡◌ {A = ℕ} 0 1 = cc in absurd (omega arith)

-- ---- equal heads, part by part
abbrev joined : List ℕ → List ℕ → List ℕ → List ℕ → List ℕ
joined a b c d = a ++ spaces 1 ++ b ++ spaces 1 ++ c ++ spaces 1 ++ d

same_four : (a b c d a' b' c' d' : List ℕ) → length a ≡ length a' → length b ≡ length b' → length c ≡ length c' →
    joined a b c d ≡ joined a' b' c' d' → (b ≡ b') × (c ≡ c') × (d ≡ d')
same_four a b c d a' b' c' d' h l m e =
    let x = same_parts (a ++ spaces 1 ++ b ++ spaces 1 ++ c ++ spaces 1) (a' ++ spaces 1 ++ b' ++ spaces 1 ++ c' ++ spaces 1) d d' (simp length-append (omega arith)) e in
    let y = same_parts (a ++ spaces 1 ++ b ++ spaces 1 ++ c) (a' ++ spaces 1 ++ b' ++ spaces 1 ++ c') (spaces 1) (spaces 1) (simp length-append (omega arith)) x.0 in
    let z = same_parts (a ++ spaces 1 ++ b ++ spaces 1) (a' ++ spaces 1 ++ b' ++ spaces 1) c c' (simp length-append (omega arith)) y.0 in
    let u = same_parts (a ++ spaces 1 ++ b) (a' ++ spaces 1 ++ b') (spaces 1) (spaces 1) (simp length-append (omega arith)) z.0 in
    let v = same_parts (a ++ spaces 1) (a' ++ spaces 1) b b' (simp length-append (omega arith)) u.0 in
    (v.1, z.1, x.1)

done_named : (a : Option Access) → Name (done_of a) 5
done_named (Some (Read r)) = name_by 5 (codes "read") tt
done_named (Some (Write r)) = name_by 5 (codes "write") tt
done_named None = name_by 5 [] tt

same_head : (n : ℕ) (a a' : Option Access) (value value' : ℕ) → is_known a ≡ true → is_known a' ≡ true → value < 2 ^ 32 → value' < 2 ^ 32 →
    head_for n a value ≡ head_for n a' value' → (code_of a ≡ code_of a') × (value ≡ value')
unfolding head_of
same_head n a a' value value' k k' h h' e =
    let name : Option Access → List ℕ = λ (b : Option Access). filled 7 (codes (register_name (register_in b))) in
    let done : Option Access → List ℕ = λ (b : Option Access). filled 5 (done_of b) in
    let five : (b : Option Access) → length (done b) ≡ 5 = λ b. length_filled 5 (done_of b) (done_named b).short in
    let seven : (b : Option Access) → length (name b) ≡ 7 = λ b. length_filled 7 (codes (register_name (register_in b))) (name_of (register_in b)).short in
    let z = same_four (spelled_of 10 6 n) (done a) (name a) (hex_of 8 value) (spelled_of 10 6 n) (done a') (name a') (hex_of 8 value')
    refl (five a ∙ sym (five a')) (seven a ∙ sym (seven a')) e in
    (sym (code_told a k) ∙ ap₂ code_for z.0 z.1 ∙ code_told a' k', same_spelled 8 value value' h h' z.2)

-- ---- entry by entry
module _ (n code value : ℕ) (known : is_known (access_of code) ≡ true) where
  entry_begins : Begins (text_of (entry_lines n code value)) (head_for n (access_of code) value)
  unfolding entry_lines
  entry_begins = access_begins n (access_of code) value known

  head_long : length (head_for n (access_of code) value) ≡ 29
  head_long = length_head n (done_of (access_of code)) (register_in (access_of code)) value (done_named (access_of code))

  not_empty : (text : List ℕ) → [] ≡ text_of (entry_lines n code value) ++ text → ⊥
  not_empty text e =
      let b = entry_begins in
      let l = simp length-append at (ap length b.whole) in
      omega (arith, head_long, l, simp length-append at (ap length e))

  code_is : code ≡ code_of (access_of code)
  unfolding access_of
  code_is = known_code code registers known

same_entry : (n code value code' value' : ℕ) → is_known (access_of code) ≡ true → is_known (access_of code') ≡ true → value < 2 ^ 32 → value' < 2 ^ 32 →
    (text text' : List ℕ) → text_of (entry_lines n code value) ++ text ≡ text_of (entry_lines n code' value') ++ text' →
    (code ≡ code') × (value ≡ value') × (text ≡ text')
same_entry n code value code' value' k k' h h' text text' e =
    let b = entry_begins n code value k in
    let b' = entry_begins n code' value' k' in
    let head : List ℕ = head_for n (access_of code) value in
    let head' : List ℕ = head_for n (access_of code') value' in
    let f : head ++ (b.rest ++ text) ≡ head' ++ (b'.rest ++ text') =
    sym (append_assoc head b.rest text) ∙ ap (λ (s : List ℕ). s ++ text) (sym b.whole) ∙ e ∙ ap (λ (s : List ℕ). s ++ text') b'.whole ∙ append_assoc head' b'.rest text' in
    let g = same_parts head head' (b.rest ++ text) (b'.rest ++ text') (head_long n code value k ∙ sym (head_long n code' value' k')) f in
    let z = same_head n (access_of code) (access_of code') value value' k k' h h' g.0 in
    let c : code ≡ code' = code_is n code value k ∙ z.0 ∙ sym (code_is n code' value' k') in
    let same_text : text_of (entry_lines n code value) ≡ text_of (entry_lines n code' value') = ap₂ (λ (x y : ℕ). text_of (entry_lines n x y)) c z.1 in
    (c, z.1, (same_parts (text_of (entry_lines n code value)) (text_of (entry_lines n code' value')) text text' (ap length same_text) e).1)

pub entries : (n code value : ℕ) (log : List ℕ) → entries_text n (code ∷ value ∷ log) ≡ text_of (entry_lines n code value) ++ entries_text (n + 1) log
unfolding lines_of
entries n code value log = text_append (entry_lines n code value) (lines_of (n + 1) log)

pub nothing : (n : ℕ) → entries_text n [] ≡ []
unfolding lines_of text_of
nothing n = refl

same_from : (n : ℕ) (log log' : List ℕ) → Below (2 ^ 32) log → Below (2 ^ 32) log' → EachKnown log → EachKnown log' → entries_text n log ≡ entries_text n log' → log ≡ log'
same_from n [] [] h h' k k' e = refl
same_from n [] (w ∷ []) h h' k k' e = absurd k'
same_from n [] (code ∷ value ∷ log) h h' k k' e = absurd (not_empty n code value k'.0 (entries_text (n + 1) log) (sym (nothing n) ∙ e ∙ entries n code value log))
same_from n (w ∷ []) log' h h' k k' e = absurd k
same_from n (code ∷ value ∷ log) [] h h' k k' e = absurd (not_empty n code value k.0 (entries_text (n + 1) log) (sym (nothing n) ∙ sym e ∙ entries n code value log))
same_from n (code ∷ value ∷ log) (w ∷ []) h h' k k' e = absurd k'
same_from n (code ∷ value ∷ log) (code' ∷ value' ∷ log') h h' k k' e =
    let z = same_entry n code value code' value' k.0 k'.0 h.1.0 h'.1.0 (entries_text (n + 1) log) (entries_text (n + 1) log')
    (sym (entries n code value log) ∙ e ∙ entries n code' value' log') in
    rw (z.0, z.1, same_from (n + 1) log log' h.1.1 h'.1.1 k.1 k'.1 z.2)

pub same_log : (log log' : List ℕ) → Below (2 ^ 32) log → Below (2 ^ 32) log' → EachKnown log → EachKnown log' → page_of log ≡ page_of log' → log ≡ log'
same_log log log' h h' k k' e = same_from 1 log log' h h' k k' e

-- ---- and the same bytes: a log without fault has whole words
whole_log : (log : List ℕ) → fault_of log ≡ Ok tt → (length log % 8 ≡ 0) × (fault_from 1 (words_in log) ≡ Ok tt)
unfolding fault_of
whole_log log e = by (eqb (length log % 8) 0) refl e
  where
    by : (b : Bool) → eqb (length log % 8) 0 ≡ b → cond b (fault_from 1 (words_in log)) (Err NotWhole) ≡ Ok tt → (length log % 8 ≡ 0) × (fault_from 1 (words_in log) ≡ Ok tt)
    by true q f = (eqb-true (length log % 8) 0 q, f)
    by false q f = let z : ◌≡◌ {A = ℕ} 0 1 = cc in absurd (omega arith)

pub same_bytes : (log log' : List ℕ) → Below 256 log → Below 256 log' → fault_of log ≡ Ok tt → fault_of log' ≡ Ok tt →
    page_of (words_in log) ≡ page_of (words_in log') → log ≡ log'
same_bytes log log' h h' f f' e =
    let w = whole_log log f in
    let w' = whole_log log' f' in
    let s : words_in log ≡ words_in log' = same_log (words_in log) (words_in log') (bytes_make_words log h) (bytes_make_words log' h') (sound 1 (words_in log) w.1) (sound 1 (words_in log') w'.1) e in
    sym (whole_words (length log / 4) log (omega (arith, w.0)) h) ∙ ap bytes_of s ∙ whole_words (length log' / 4) log' (omega (arith, w'.0)) h'
