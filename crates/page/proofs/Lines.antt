-- The lines of an entry: each has 80 columns, and an entry has at most five. Assumes nothing.
use Rattle.std.specs.Prelude.{Option, Some, None}
use Prim.Native.Nat.{ℕ, ◌+◌, ◌*◌, ◌≤◌}
use native.Mathlib.Omega.{arith}
use mathlib.Core.Path.{◌≡◌, refl}
use mathlib.Core.Bool.{Bool, true, false, cond, ◌&&◌}
use mathlib.Core.List.{List, [], ◌∷◌, ◌++◌}
use lib.Dec.{T, leb, leb→le, lit≤}
use lib.ListN.{length, length-append, length-replicate}
use borrow.Author.Tests.{leb-true, leb-false}
use Rattle.fields.proofs.Laws.{and_l, and_r}
use Rattle.numerals.specs.Numbers.{spelled_of, hex_of}
use Rattle.registers.specs.Fields.{register_name}
use Rattle.registers.specs.declared.Register.{Register}
use Rattle.registers.specs.declared.Register.TheVariants.{Cr1, Cr2, Oar1, Oar2, Timingr, Isr, Icr, Rxdr, Txdr}
use Rattle.window.specs.Codes.{codes}
use Rattle.page.specs.Page.{access_of, spaces, filled, head_of, lines_from, register_lines, access_lines, entry_lines, lines_of, text_of}
use Rattle.page.specs.Promises.{Printable, Lines}
use Rattle.page.specs.Tokens.{Token, tokens_of}
use Rattle.page.proofs.Sizes.{total, Each, Sized, register_sized}
use Rattle.numerals.proofs.Spelling.{length_spelled}
use Rattle.page.proofs.Texts.{length_filled, printable, printed, print_append, print_spaces, print_filled, print_spelled}
use Rattle.page.specs.declared.Access.{Access}
use Rattle.page.specs.declared.Access.TheVariants.{Read, Write}

-- ---- the head has 29 characters
pub record Name (name : List ℕ) (n : ℕ) : Type 0 where
  pub short : length name ≤ n
  pub plain : Printable name

abbrev pub is_name : ℕ → List ℕ → Bool
is_name n name = leb (length name) n && printable name

pub name_by : (n : ℕ) (name : List ℕ) → T (is_name n name) → Name name n
name_by n name t = record { short = leb→le (length name) n (and_l (leb (length name) n) _ t); plain = printed name (and_r (leb (length name) n) _ t) }

named : (r : Register) → T (is_name 7 (codes (register_name r)))
named Cr1 = tt
named Cr2 = tt
named Oar1 = tt
named Oar2 = tt
named Timingr = tt
named Isr = tt
named Icr = tt
named Rxdr = tt
named Txdr = tt

pub name_of : (r : Register) → Name (codes (register_name r)) 7
name_of r = name_by 7 (codes (register_name r)) (named r)

module _ (n : ℕ) (done : List ℕ) (r : Register) (value : ℕ) (d : Name done 5) where
  pub length_head : length (head_of n done r value) ≡ 29
  unfolding head_of
  length_head = simp (length-append, length-replicate, length_spelled) (omega (arith, d.short, (name_of r).short))

  pub print_head : Printable (head_of n done r value)
  unfolding head_of
  print_head =
      let a : List ℕ = spelled_of 10 6 n ++ spaces 1 in
      let b : List ℕ = a ++ filled 5 done in
      let c : List ℕ = b ++ spaces 1 in
      let e : List ℕ = c ++ filled 7 (codes (register_name r)) in
      let A : Printable a = print_append (spelled_of 10 6 n) (spaces 1) (print_spelled 10 6 n (lit≤ tt) (lit≤ tt)) (print_spaces 1) in
      let B : Printable b = print_append a (filled 5 done) A (print_filled 5 done d.plain) in
      let C : Printable c = print_append b (spaces 1) B (print_spaces 1) in
      let E : Printable e = print_append c (filled 7 (codes (register_name r))) C (print_filled 7 (codes (register_name r)) (name_of r).plain) in
      print_append (e ++ spaces 1) (hex_of 8 value) (print_append e (spaces 1) E (print_spaces 1)) (print_spelled 16 8 value (lit≤ tt) (lit≤ tt))

-- ---- lines of tokens
-- A token goes to the next line only if 69 columns are used or more, 40 of them by tokens: so each line but the last takes 40 of what the tokens take.
few_from : (line : List ℕ) (ts : List Token) → 29 ≤ length line → Each ts → 40 * length (lines_from line ts) + 29 ≤ 40 + length line + total ts
unfolding lines_from
few_from line [] h e = omega arith
few_from line (t ∷ ts) h e =
    by (leb (length line + (1 + length t)) 80) refl
    (few_from (line ++ spaces 1 ++ t) ts (simp (length-append) (omega arith)) e.2)
    (few_from (spaces 30 ++ t) ts (simp (length-append) (omega arith)) e.2)
  where
    by : (b : Bool) → leb (length line + (1 + length t)) 80 ≡ b →
        40 * length (lines_from (line ++ spaces 1 ++ t) ts) + 29 ≤ 40 + length (line ++ spaces 1 ++ t) + total ts →
        40 * length (lines_from (spaces 30 ++ t) ts) + 29 ≤ 40 + length (spaces 30 ++ t) + total ts →
        40 * length (cond b (lines_from (line ++ spaces 1 ++ t) ts) (filled 80 line ∷ lines_from (spaces 30 ++ t) ts)) + 29 ≤ 40 + length line + (1 + length t + total ts)
    by true q f g = omega (arith, simp length-append at f)
    by false q f g = omega (arith, leb-false (length line + (1 + length t)) 80 q, e.0, simp length-append at g)

-- a token that goes to a line has room there
lines_from_holds : (line : List ℕ) (ts : List Token) → length line ≤ 80 → Printable line → Each ts → Lines (lines_from line ts)
unfolding lines_from
lines_from_holds line [] h p e = (length_filled 80 line h, print_filled 80 line p, tt)
lines_from_holds line (t ∷ ts) h p e =
    by (leb (length line + (1 + length t)) 80) refl
    (λ (l : length (line ++ spaces 1 ++ t) ≤ 80). lines_from_holds (line ++ spaces 1 ++ t) ts l (print_append (line ++ spaces 1) t (print_append line (spaces 1) p (print_spaces 1)) e.1) e.2)
    (lines_from_holds (spaces 30 ++ t) ts (simp length-append (omega (arith, e.0))) (print_append (spaces 30) t (print_spaces 30) e.1) e.2)
  where
    by : (b : Bool) → leb (length line + (1 + length t)) 80 ≡ b →
        (length (line ++ spaces 1 ++ t) ≤ 80 → Lines (lines_from (line ++ spaces 1 ++ t) ts)) → Lines (lines_from (spaces 30 ++ t) ts) →
        Lines (cond b (lines_from (line ++ spaces 1 ++ t) ts) (filled 80 line ∷ lines_from (spaces 30 ++ t) ts))
    by true q f g = f (simp length-append (omega (arith, leb-true (length line + (1 + length t)) 80 q)))
    by false q f g = (length_filled 80 line h, print_filled 80 line p, g)

-- ---- an entry, and a log
module _ (n : ℕ) (done : List ℕ) (r : Register) (value : ℕ) (d : Name done 5) where
  register_few : length (register_lines n done r value) ≤ 5
  register_few =
      let s : Sized (tokens_of r value) 199 = register_sized r value in
      let l = length_head n done r value d in
      omega (arith, s.few, few_from (head_of n done r value) (tokens_of r value) (omega arith) s.each)

  register_lines_holds : Lines (register_lines n done r value)
  register_lines_holds =
      lines_from_holds (head_of n done r value) (tokens_of r value) (omega (arith, length_head n done r value d)) (print_head n done r value d) (register_sized r value).each

access_few : (n : ℕ) (a : Option Access) (value : ℕ) → length (access_lines n a value) ≤ 5
access_few n (Some (Read r)) value = register_few n (codes "read") r value (name_by 5 (codes "read") tt)
access_few n (Some (Write r)) value = register_few n (codes "write") r value (name_by 5 (codes "write") tt)
access_few n None value = lit≤ tt

access_lines_holds : (n : ℕ) (a : Option Access) (value : ℕ) → Lines (access_lines n a value)
access_lines_holds n (Some (Read r)) value = register_lines_holds n (codes "read") r value (name_by 5 (codes "read") tt)
access_lines_holds n (Some (Write r)) value = register_lines_holds n (codes "write") r value (name_by 5 (codes "write") tt)
access_lines_holds n None value = tt

pub entry_lines_holds : (n code value : ℕ) → Lines (entry_lines n code value)
unfolding entry_lines
entry_lines_holds n code value = access_lines_holds n (access_of code) value

-- 80 characters and a line feed
pub text_length : (ls : List (List ℕ)) → Lines ls → length (text_of ls) ≡ 81 * length ls
unfolding text_of
text_length [] h = refl
text_length (l ∷ ls) h = simp length-append (omega (arith, h.0, text_length ls h.2))

pub few_lines : (n code value : ℕ) → length (text_of (entry_lines n code value)) ≤ 5 * 81
unfolding entry_lines
few_lines n code value =
    omega (arith, text_length (entry_lines n code value) (entry_lines_holds n code value), access_few n (access_of code) value)

lines_append : (ls ms : List (List ℕ)) → Lines ls → Lines ms → Lines (ls ++ ms)
lines_append [] ms h m = m
lines_append (l ∷ ls) ms h m = (h.0, h.1, lines_append ls ms h.2 m)

pub columns : (n : ℕ) (log : List ℕ) → Lines (lines_of n log)
unfolding lines_of
columns n [] = tt
columns n (w ∷ []) = tt
columns n (code ∷ value ∷ log) = lines_append (entry_lines n code value) (lines_of (n + 1) log) (entry_lines_holds n code value) (columns (n + 1) log)
