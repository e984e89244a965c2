-- The text of an entry: its head, its tokens on lines, and how much it is. Assumes nothing.
use Rattle.std.specs.Prelude.{Option, Some, None}
use Prim.Native.Nat.{ℕ, suc, ◌+◌, ◌-◌, ◌≤◌}
use native.Mathlib.Omega.{arith}
use Prim.Native.String.{String}
use mathlib.Core.Path.{◌≡◌, refl, sym, ap, ◌∙◌}
use mathlib.Core.Bool.{Bool, true, false, cond, ◌&&◌}
use mathlib.Core.List.{List, [], ◌∷◌, ◌++◌, map, append-nil, append_assoc}
use lib.Dec.{T, eqb, leb}
use lib.ListN.{length, length-append}
use borrow.Author.Tests.{eqb-true}
use lib.Ieee.Bits.{is_true}
use Rattle.fields.proofs.Laws.{and_l, and_r}
use Rattle.fields.specs.Field.{place, bit}
use Rattle.numerals.specs.Numbers.{spelled_of, hex_of}
use Rattle.registers.specs.Fields.{Field, field, register_name, fields_of}
use Rattle.registers.specs.declared.Register.{Register}
use Rattle.registers.specs.declared.Register.TheVariants.{Cr1, Cr2, Oar1, Oar2, Timingr, Isr, Icr, Rxdr, Txdr}
use Rattle.window.specs.Codes.{codes}
use Rattle.window.specs.Window.{Laid, laid, start_of, emit_of}
use Rattle.window.specs.declared.Cursor.{Cursor}
use Rattle.window.proofs.Laid.{then, emit_append, emit_none, left_out}
use Rattle.page.specs.Page.{access_of, spaces, filled, head_of, lines_from, register_lines, access_lines, entry_lines, text_of}
use Rattle.page.specs.Put.{Put, ending, room_put, add_put, token_put, tokens_put, below, bits_put, flag_put, number_put, done_of, label_of, labels_of, fitting, field_put, fields_put, name_of}
use Rattle.page.specs.Tokens.{Token, flag_tokens, number_tokens, field_tokens, bit_tokens, above, tokens_below, tokens_of}
use Rattle.page.proofs.Lines.{Name, name_by, length_head, few_lines}
use Rattle.page.proofs.Putting.{tokens_append}
use Rattle.page.specs.declared.Access.{Access}
use Rattle.page.specs.declared.Access.TheVariants.{Read, Write}

-- ---- the code of an access
pub coded : (code k : ℕ) (a : Option Access) → code ≡ k → access_of k ≡ a → a ≡ access_of code
coded code k a e f = sym f ∙ ap access_of (sym e)

-- ---- what was done, with the space after it
abbrev pub done : Bool → List ℕ
done write = filled 5 (done_of write) ++ spaces 1

-- ---- the head of an entry, put in parts
pub numbered : (n : ℕ) (d : List ℕ) (K L M : Laid) → d ≡ spelled_of 10 6 n → L ≡ emit_of d K → M ≡ emit_of (spaces 1) L → M ≡ emit_of (spelled_of 10 6 n ++ spaces 1) K
numbered n d K L M e f g = then (spelled_of 10 6 n) (spaces 1) K L M (rw e at f) g

pub headed : (n value : ℕ) (write : Bool) (r : Register) (d : List ℕ) (K L M N O : Laid) → L ≡ emit_of (spelled_of 10 6 n ++ spaces 1) K → M ≡ emit_of (done write) L →
    N ≡ emit_of (name_of r) M → d ≡ hex_of 8 value → O ≡ emit_of d N → O ≡ emit_of (head_of n (done_of write) r value) K
unfolding head_of
headed n value write r d K L M N O a b c e f =
    let number : List ℕ = spelled_of 10 6 n ++ spaces 1 in
    then (number ++ done write ++ name_of r) (hex_of 8 value) K N O (then (number ++ done write) (name_of r) K M N (then number (done write) K L M a b) c) (rw e at f)
    ∙ ap (λ (t : List ℕ). emit_of t K) (regroup number (filled 5 (done_of write)) (spaces 1) (filled 7 (codes (register_name r))) (spaces 1) (hex_of 8 value))
  where
    regroup : (a b c d e f : List ℕ) → a ++ (b ++ c) ++ (d ++ e) ++ f ≡ a ++ b ++ c ++ d ++ e ++ f
    regroup a b c d e f = simp append_assoc

-- ---- tokens put on lines are the text of the lines: `column` columns of the first are used
tail_of : ℕ → List Token → List ℕ
tail_of column [] = ending column
tail_of column (t ∷ ts) =
    cond (leb (column + (1 + length t)) 80)
    ((spaces 1 ++ t) ++ tail_of (column + (1 + length t)) ts)
    ((ending column ++ spaces 29) ++ ((spaces 1 ++ t) ++ tail_of (29 + (1 + length t)) ts))

lines_tail : (line : List ℕ) (ts : List Token) → text_of (lines_from line ts) ≡ line ++ tail_of (length line) ts
unfolding text_of lines_from tail_of
lines_tail line [] = simp (append-nil, append_assoc)
lines_tail line (t ∷ ts) = go (leb (length line + (1 + length t)) 80) (lines_tail (line ++ spaces 1 ++ t) ts) (lines_tail (spaces 30 ++ t) ts)
  where
    go : (b : Bool) → text_of (lines_from (line ++ spaces 1 ++ t) ts) ≡ (line ++ spaces 1 ++ t) ++ tail_of (length (line ++ spaces 1 ++ t)) ts →
        text_of (lines_from (spaces 30 ++ t) ts) ≡ (spaces 30 ++ t) ++ tail_of (length (spaces 30 ++ t)) ts →
        text_of (cond b (lines_from (line ++ spaces 1 ++ t) ts) (filled 80 line ∷ lines_from (spaces 30 ++ t) ts))
        ≡ line ++ cond b ((spaces 1 ++ t) ++ tail_of (length line + (1 + length t)) ts)
        ((ending (length line) ++ spaces 29) ++ ((spaces 1 ++ t) ++ tail_of (29 + (1 + length t)) ts))
    go true e f = e ∙ simp (length-append, append_assoc)
    go false e f =
        let g : length (spaces 30 ++ t) ≡ 29 + (1 + length t) = omega arith in
        ap (λ (s : List ℕ). (filled 80 line ++ codes "\n") ++ s) (f ∙ ap (λ (k : ℕ). (spaces 30 ++ t) ++ tail_of k ts) g)
        ∙ last (spaces (80 - length line)) (codes "\n") (spaces 29) ((spaces 1 ++ t) ++ tail_of (29 + (1 + length t)) ts)
      where
        last : (a b c d : List ℕ) → ((line ++ a) ++ b) ++ (c ++ d) ≡ line ++ (((a ++ b) ++ c) ++ d)
        last a b c d = simp append_assoc

-- and put from there on they are put
put_tail : (ts : List Token) (s : Put) → emit_of (ending (tokens_put ts s).column) (tokens_put ts s).text ≡ emit_of (tail_of s.column ts) s.text
unfolding tail_of tokens_put room_put add_put
put_tail [] s = refl
put_tail (t ∷ ts) s = put_tail ts (token_put t s) ∙ go (leb (s.column + (1 + length t)) 80)
  where
    room : Bool → Put
    room b = cond b s (record { text = emit_of (ending s.column ++ spaces 29) s.text; column = 29; top = s.top })

    go : (b : Bool) → emit_of (tail_of (add_put t (room b)).column ts) (add_put t (room b)).text
        ≡ emit_of (cond b ((spaces 1 ++ t) ++ tail_of (s.column + (1 + length t)) ts)
        ((ending s.column ++ spaces 29) ++ ((spaces 1 ++ t) ++ tail_of (29 + (1 + length t)) ts))) s.text
    go true = sym (emit_append (spaces 1 ++ t) (tail_of (s.column + (1 + length t)) ts) s.text)
    go false =
        sym (emit_append (ending s.column ++ spaces 29) ((spaces 1 ++ t) ++ tail_of (29 + (1 + length t)) ts) s.text
        ∙ emit_append (spaces 1 ++ t) (tail_of (29 + (1 + length t)) ts) (emit_of (ending s.column ++ spaces 29) s.text))

-- ---- a register's fields as they are told are its tokens
below_tokens : (k : ℕ) (ts : List Token) (s : Put) → tokens_put ts (below k s) ≡ below k (tokens_put ts s)
unfolding tokens_put room_put add_put
below_tokens k [] s = refl
below_tokens k (t ∷ ts) s = ap (tokens_put ts) (go (leb (s.column + (1 + length t)) 80)) ∙ below_tokens k ts (token_put t s)
  where
    room : Bool → Put → Put
    room b s = cond b s (record { text = emit_of (ending s.column ++ spaces 29) s.text; column = 29; top = s.top })

    go : (b : Bool) → add_put t (room b (below k s)) ≡ below k (add_put t (room b s))
    go true = refl
    go false = refl

after_bits : (k at : ℕ) (bits ts : List Token) (s : Put) → below at (tokens_put ts (below k (tokens_put bits s))) ≡ below at (tokens_put (bits ++ ts) s)
after_bits k at bits ts s = rw (below_tokens k ts (tokens_put bits s), tokens_append bits ts s)

module _ (value : ℕ) (name : String) (at width : ℕ) (s : Put) where
  abbrev bits : List Token
  bits = bit_tokens value (at + width) (s.top - (at + width))

  flag_case : width ≡ 1 → flag_put value (codes name) at s ≡ below at (tokens_put (bits ++ flag_tokens value (codes name) (place at width)) s)
  unfolding flag_put bits_put
  flag_case e = rw e (after_bits (at + 1) at (bit_tokens value (at + 1) (s.top - (at + 1))) (flag_tokens value (codes name) (bit at)) s)

  number_case : number_put value (codes name ++ codes "=") at width s ≡ below at (tokens_put (bits ++ number_tokens value (codes name) (place at width)) s)
  unfolding number_put bits_put tokens_put number_tokens
  number_case = after_bits (at + width) at bits (number_tokens value (codes name) (place at width)) s

  field_put_holds : T (fitting (label_of (field name (place at width)))) →
      field_put value (label_of (field name (place at width))) s ≡ below at (tokens_put (bits ++ field_tokens value (field name (place at width))) s)
  unfolding field_put
  field_put_holds t =
      let h : fitting (label_of (field name (place at width))) ≡ true = is_true _ t in
      rw h (go (eqb width 1) (eqb-true width 1))
    where
      go : (b : Bool) → (b ≡ true → width ≡ 1) →
          cond b (flag_put value (cond b (codes name) (codes name ++ codes "=")) at s) (number_put value (cond b (codes name) (codes name ++ codes "=")) at width s)
          ≡ below at (tokens_put (bits ++ cond b (flag_tokens value (codes name) (place at width)) (number_tokens value (codes name) (place at width))) s)
      go true h = flag_case (h refl)
      go false h = number_case

abbrev all_fit : List Field → Bool
all_fit [] = true
all_fit (f ∷ fs) = fitting (label_of f) && all_fit fs

fields_put_holds : (value : ℕ) (fs : List Field) (s : Put) → T (all_fit fs) →
    fields_put value (map label_of fs) s ≡ below 0 (tokens_put (tokens_below value s.top fs) s)
unfolding fields_put tokens_below bits_put
fields_put_holds value [] s t = (let e : s.top - 0 ≡ s.top = omega arith in rw e)
fields_put_holds value (f ∷ fs) s t =
    ap (fields_put value (map label_of fs)) (field_put_holds value f.name f.place.at f.place.width s (and_l (fitting (label_of f)) _ t))
    ∙ fields_put_holds value fs _ (and_r (fitting (label_of f)) _ t)
    ∙ after_bits f.place.at 0 (bit_tokens value (above f.place) (s.top - above f.place) ++ field_tokens value f) (tokens_below value f.place.at fs) s

fits_all : (r : Register) → T (all_fit (fields_of r))
fits_all Cr1 = tt
fits_all Cr2 = tt
fits_all Oar1 = tt
fits_all Oar2 = tt
fits_all Timingr = tt
fits_all Isr = tt
fits_all Icr = tt
fits_all Rxdr = tt
fits_all Txdr = tt

-- ---- the lines of an entry
done_short : (write : Bool) → Name (done_of write) 5
done_short true = name_by 5 (codes "write") tt
done_short false = name_by 5 (codes "read") tt

pub lines_put : (n value : ℕ) (write : Bool) (r : Register) (K L M : Laid) (S : Put) → L ≡ emit_of (head_of n (done_of write) r value) K →
    S ≡ fields_put value (labels_of r) (record { text = L; column = 29; top = 32 }) → M ≡ emit_of (ending S.column) S.text →
    M ≡ emit_of (text_of (register_lines n (done_of write) r value)) K
lines_put n value write r K L M S e f g =
    let ts : List Token = tokens_of r value in
    let head : List ℕ = head_of n (done_of write) r value in
    let start : Put = record { text = L; column = 29; top = 32 } in
    g ∙ ap (λ (s : Put). emit_of (ending s.column) s.text) (f ∙ fields_put_holds value (fields_of r) start (fits_all r))
    ∙ put_tail ts start
    ∙ sym (ap (λ (t : List ℕ). emit_of t K) (lines_tail head ts ∙ ap (λ (k : ℕ). head ++ tail_of k ts) (length_head n (done_of write) r value (done_short write)))
    ∙ emit_append head (tail_of 29 ts) K
    ∙ ap (emit_of (tail_of 29 ts)) (sym e))

module _ (n value : ℕ) (a : Option Access) (K M : Laid) where
  pub access_read : (r : Register) → a ≡ Some (Read r) → M ≡ emit_of (text_of (register_lines n (done_of false) r value)) K → M ≡ emit_of (text_of (access_lines n a value)) K
  access_read r e f = rw e f

  pub access_written : (r : Register) → a ≡ Some (Write r) → M ≡ emit_of (text_of (register_lines n (done_of true) r value)) K → M ≡ emit_of (text_of (access_lines n a value)) K
  access_written r e f = rw e f

  pub no_access : a ≡ None → K ≡ emit_of (text_of (access_lines n a value)) K
  unfolding text_of
  no_access e = rw (e, emit_none)

  pub entry_put : (code : ℕ) → a ≡ access_of code → M ≡ emit_of (text_of (access_lines n a value)) K → M ≡ emit_of (text_of (entry_lines n code value)) K
  unfolding entry_lines
  entry_put code e f = rw (← e) f

-- ---- a text put before a window that it does not reach: what is left to skip
left_to_skip : (t : List ℕ) (k at : ℕ) (bytes : List ℕ) → length t ≤ k → (emit_of t (record { skip = k; at = at; bytes = bytes })).skip ≡ k - length t
unfolding emit_of
left_to_skip [] k at bytes h = omega arith
left_to_skip (b ∷ t) k at bytes h =
    ap (λ (L : Laid). (emit_of t L).skip) (sym (left_out b k at bytes (omega arith)))
    ∙ left_to_skip t (k - 1) at bytes (omega arith)
    ∙ (let e : k - 1 - length t ≡ k - suc (length t) = omega arith in e)

module _ (n code value : ℕ) (q p : Cursor) (bytes after : List ℕ) (e : q ≡ start_of 405)
    (f : laid p after ≡ emit_of (text_of (entry_lines n code value)) (laid q bytes)) where
  left : p.skip ≡ 405 - length (text_of (entry_lines n code value))
  left =
      ap (λ (L : Laid). L.skip) f
      ∙ rw e (left_to_skip (text_of (entry_lines n code value)) 405 0 bytes (few_lines n code value))

  pub skip_left : p.skip ≤ 405
  skip_left = omega (arith, left)

  pub sized : 405 - p.skip ≡ length (text_of (entry_lines n code value))
  sized = omega (arith, left, few_lines n code value)
