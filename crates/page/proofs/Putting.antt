-- Tokens put on lines one after the other. Assumes nothing.
use Prim.Native.Nat.{ℕ, suc, ◌+◌, ◌-◌, ◌≤◌, ◌<◌}
use native.Mathlib.Omega.{arith}
use mathlib.Core.Path.{◌≡◌, refl, ap, ◌∙◌}
use mathlib.Core.Bool.{Bool, true, false, cond}
use mathlib.Core.List.{List, [], ◌∷◌, ◌++◌, append-nil}
use lib.Dec.{eqb}
use lib.ListN.{length, length-append}
use borrow.Author.Tests.{le-leb, lt-leb, le-ltb, lt-ltb, eq-eqb, ne_eqb}
use Rattle.fields.specs.Field.{place, bit, get_of, flag_of}
use Rattle.numerals.proofs.Spelling.{length_spelled}
use Rattle.numerals.specs.Numbers.{spelled_of, significant_of, decimal_of}
use Rattle.numerals.specs.Words.{first_word, after_word}
use Rattle.registers.specs.declared.Register.{Register}
use Rattle.window.specs.Codes.{codes}
use Rattle.window.specs.Window.{Laid, emit_of}
use Rattle.window.proofs.Laid.{then}
use Rattle.page.specs.Page.{spaces}
use Rattle.page.specs.Put.{Put, ending, room_put, add_put, token_put, tokens_put, below, bits_put, flag_put, number_put, Labelled, labelled, number_in, fields_in, labels_of, field_put, fields_put}
use Rattle.page.specs.Tokens.{Token, flag_tokens, bit_tokens}

abbrev put : Laid → ℕ → ℕ → Put
put text column top = record { text = text; column = column; top = top }

-- ---- room for a token
module _ (n column top : ℕ) (L : Laid) where
  pub fits : column + (1 + n) ≤ 80 → put L column top ≡ room_put n (put L column top)
  unfolding room_put
  fits h = rw (le-leb (column + (1 + n)) 80 h)

  pub breaks : 80 < column + (1 + n) → (M N : Laid) → M ≡ emit_of (ending column) L → N ≡ emit_of (spaces 29) M →
      put N 29 top ≡ room_put n (put L column top)
  unfolding room_put
  breaks h M N e f = rw (lt-leb (column + (1 + n)) 80 h, then (ending column) (spaces 29) L M N e f)

-- ---- a token of two parts, put after a space
module _ (s : Put) (column top : ℕ) (L M N O : Laid) (a b : List ℕ) where
  pub added : put L column top ≡ room_put (length a + length b) s → M ≡ emit_of (spaces 1) L → N ≡ emit_of a M → O ≡ emit_of b N →
      put O (column + (1 + (length a + length b))) top ≡ token_put (a ++ b) s
  unfolding add_put
  added r e f g =
      let h : O ≡ emit_of (spaces 1 ++ a ++ b) L = then (spaces 1) (a ++ b) L M O e (then a b M N O f g) in
      rw (length-append, ← r, h)

-- ---- tokens after tokens
pub tokens_append : (ts us : List Token) (s : Put) → tokens_put (ts ++ us) s ≡ tokens_put us (tokens_put ts s)
unfolding tokens_put
tokens_append [] us s = refl
tokens_append (t ∷ ts) us s = tokens_append ts us (token_put t s)

-- ---- a flag
module _ (value at : ℕ) (name : List ℕ) (s : Put) (r : Bool) (e : r ≡ flag_of value (bit at)) where
  pub set_bit : r ≡ true → (S : Put) → S ≡ token_put name s → S ≡ tokens_put (flag_tokens value name (bit at)) s
  unfolding tokens_put flag_tokens
  set_bit h S f = rw (← e, h, f)

  pub clear_bit : r ≡ false → s ≡ tokens_put (flag_tokens value name (bit at)) s
  unfolding tokens_put flag_tokens
  clear_bit h = rw (← e, h)

-- ---- a number's digits are few
pub short : (t : List ℕ) → length (significant_of t) ≤ length t
unfolding significant_of
short [] = omega arith
short (d ∷ []) = omega arith
short (d ∷ e ∷ t) = go (eqb d 48) (short (e ∷ t))
  where
    go : (z : Bool) → length (significant_of (e ∷ t)) ≤ suc (length t) → length (cond z (significant_of (e ∷ t)) (d ∷ e ∷ t)) ≤ suc (suc (length t))
    go true h = omega arith
    go false h = omega arith

pub digits_fit : (d g : List ℕ) (n : ℕ) → d ≡ significant_of g → significant_of g ≡ decimal_of n → length d ≤ 20
digits_fit d g n e f = rw (e, f) (omega (arith, short (spelled_of 10 20 n), length_spelled 10 20 n))

-- ---- the bits of no field, those from bit `top` on being put
module _ (value low top : ℕ) (s S : Put) (done : tokens_put (bit_tokens value low (top - low)) s ≡ S) where
  pub bits_shown : top ≤ low → s ≡ S
  unfolding tokens_put bit_tokens
  bits_shown h = (let e : top - low ≡ 0 = omega arith in rw e at done)

  pub next_bit : low < top → (d g : List ℕ) → d ≡ significant_of g → significant_of g ≡ decimal_of (top - 1) → (N : Put) →
      N ≡ tokens_put (flag_tokens value (codes "bit" ++ d) (bit (top - 1))) s → tokens_put (bit_tokens value low (top - 1 - low)) N ≡ S
  unfolding bit_tokens
  next_bit h d g e f N m =
      let a : top - low ≡ suc (top - 1 - low) = omega arith in
      let b : low + (top - 1 - low) ≡ top - 1 = omega arith in
      rw (m, e, f) (rw (a, b, tokens_append) at done)

-- ---- a field, after the bits above it
module _ (value top : ℕ) (s B A : Put) where
  pub flag_put_holds : (name : List ℕ) → B ≡ bits_put value (top + 1) s → A ≡ tokens_put (flag_tokens value (name ++ []) (bit top)) B →
      below top A ≡ flag_put value name top s
  unfolding flag_put
  flag_put_holds name e f = rw (← e) (ap (below top) (rw append-nil at f))

  pub number_put_holds : (label d g : List ℕ) (width n : ℕ) → B ≡ bits_put value (top + width) s → d ≡ significant_of g →
      significant_of g ≡ decimal_of n → n ≡ get_of value (place top width) → A ≡ token_put (label ++ d) B → below top A ≡ number_put value label top width s
  unfolding number_put
  number_put_holds label d g width n e p q r f = rw (← e, ← r, ← q, ← p) (ap (below top) f)

-- ---- a register's fields, of which k are put, and the text `rest` tells the others
module _ (value at width : ℕ) (label : List ℕ) (s : Put) where
  pub too_high : 32 ≤ at → s ≡ field_put value (labelled at width label) s
  unfolding field_put
  too_high h = rw (le-ltb at 32 h)

  pub too_wide_holds : at < 32 → 32 ≤ width → s ≡ field_put value (labelled at width label) s
  unfolding field_put
  too_wide_holds h k = rw (lt-ltb at 32 h, le-ltb width 32 k)

  pub too_long : at < 32 → width < 32 → 20 < length label → s ≡ field_put value (labelled at width label) s
  unfolding field_put
  too_long h k l = rw (lt-ltb at 32 h, lt-ltb width 32 k, lt-leb (length label) 20 l)

  pub a_flag : at < 32 → width < 32 → length label ≤ 20 → width ≡ 1 → (S : Put) → S ≡ flag_put value label at s →
      S ≡ field_put value (labelled at width label) s
  unfolding field_put
  a_flag h k l e S f = rw (lt-ltb at 32 h, lt-ltb width 32 k, le-leb (length label) 20 l, eq-eqb width 1 e) f

  pub a_number : at < 32 → width < 32 → length label ≤ 20 → (width ≡ 1 → ⊥) → (S : Put) → S ≡ number_put value label at width s →
      S ≡ field_put value (labelled at width label) s
  unfolding field_put
  a_number h k l e S f = rw (lt-ltb at 32 h, lt-ltb width 32 k, le-leb (length label) 20 l, ne_eqb width 1 e) f

pub ruleset field-cases = (too_high, too_wide_holds, too_long, a_flag, a_number)

module _ (value n k : ℕ) (rest : List ℕ) (s S : Put) (done : fields_put value (fields_in (n - k) rest) s ≡ S) where
  pub fields_shown : n ≤ k → (T : Put) → T ≡ bits_put value 0 s → T ≡ S
  unfolding fields_put fields_in
  fields_shown h T e = e ∙ (let z : n - k ≡ 0 = omega arith in rw z at done)

  pub next_field : k < n → (at width : ℕ) (label t u v : List ℕ) → t ≡ after_word rest → u ≡ after_word t → at ≡ number_in rest → width ≡ number_in t →
      label ≡ first_word u → v ≡ after_word u → (N : Put) → N ≡ field_put value (labelled at width label) s → fields_put value (fields_in (n - (k + 1)) v) N ≡ S
  unfolding fields_put fields_in
  next_field h at width label t u v a b c d e f N g =
      let z : n - k ≡ suc (n - (k + 1)) = omega arith in
      rw (g, c, d, e, f, b, a) (rw z at done)

-- the fields of a register that was found to be q
pub told : (value : ℕ) (r q : Register) (fs : List Labelled) (s S : Put) → r ≡ q → S ≡ fields_put value fs s → fs ≡ labels_of q → S ≡ fields_put value (labels_of r) s
told value r q fs s S e f g = rw e (rw g at f)
