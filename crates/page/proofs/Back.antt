-- What stands from column 31 on in the lines of an entry gives its value back. Assumes nothing.
use Rattle.std.specs.Prelude.{Some}
use Prim.Native.Nat.{ℕ, zero, suc, ◌+◌, ◌-◌, ◌^◌, ◌<◌}
use native.Mathlib.Nat.{mod-eq_of_lt, le_refl}
use mathlib.Core.Path.{◌≡◌, sym, ap, ◌∙◌}
use mathlib.Core.Bool.{true, false, cond, ◌&&◌}
use mathlib.Core.List.{List, [], ◌∷◌, ◌++◌, append-nil}
use lib.Dec.{T, eqb, leb}
use mir.Facts.{and_yes}
use Rattle.fields.specs.Field.{Place, bit, inside, get_of, flag_of}
use Rattle.numerals.specs.Numbers.{decimal_of}
use Rattle.numerals.specs.Words.{is_blank}
use Rattle.registers.specs.Fields.{Field, fields_of}
use Rattle.registers.specs.declared.Register.{Register}
use Rattle.registers.specs.declared.Register.TheVariants.{Cr1, Cr2, Oar1, Oar2, Timingr, Isr, Icr, Rxdr, Txdr}
use Rattle.window.specs.Codes.{codes}
use Rattle.page.specs.Back.{field_columns, tokens_in, sum_of, value_in}
use Rattle.page.specs.Page.{access_of, register_lines, head_of, lines_from, entry_lines}
use Rattle.page.specs.Tokens.{Token, flag_tokens, number_tokens, field_tokens, bit_tokens, above, tokens_below, tokens_of}
use Rattle.page.proofs.Split.{unbroken, solid, EachSolid, laid_tokens}
use Rattle.page.proofs.Decimal.{decimal_solid, unbroken_append}
use Rattle.page.proofs.Lines.{Name, name_by, length_head}
use Rattle.page.proofs.Worth.{known, other_names, descend, below_sum}
use Rattle.page.specs.declared.Access.TheVariants.{Read, Write}

-- what the proofs ask of a register's fields, one computed test a register
tested : (r : Register) → T (other_names (fields_of r) && descend (fields_of r) 32 (fields_of r))
unfolding is_blank
tested Cr1 = tt
tested Cr2 = tt
tested Oar1 = tt
tested Oar2 = tt
tested Timingr = tt
tested Isr = tt
tested Icr = tt
tested Rxdr = tt
tested Txdr = tt

-- ---- no token has a blank in it
solid_append : (s t : List ℕ) → T (solid s) → T (unbroken t) → T (solid (s ++ t))
solid_append [] t h l = absurd h
solid_append (c ∷ s) t h l = unbroken_append (c ∷ s) t h l

each_append : (ts us : List Token) → EachSolid ts → EachSolid us → EachSolid (ts ++ us)
each_append [] us h l = l
each_append (t ∷ ts) us h l = (h.0, each_append ts us h.1 l)

module _ (value : ℕ) where
  flag_solid : (name : Token) (p : Place) → T (solid name) → EachSolid (flag_tokens value name p)
  unfolding flag_tokens
  flag_solid name p h = elim (flag_of value p) as (λ q. EachSolid (cond q (name ∷ []) [])) [ true ↦ (h, tt) | false ↦ tt ]

  number_solid : (name : Token) (p : Place) → T (solid name) → EachSolid (number_tokens value name p)
  unfolding number_tokens is_blank
  number_solid name p h =
      let n : ℕ = get_of value p in
      (solid_append (name ++ codes "=") (decimal_of n) (solid_append name (codes "=") h tt) (decimal_solid n), tt)

  field_solid : (f : Field) → T (solid (codes f.name)) → EachSolid (field_tokens value f)
  field_solid f h =
      elim (eqb f.place.width 1)
      as (λ q. EachSolid (cond q (flag_tokens value (codes f.name) f.place) (number_tokens value (codes f.name) f.place)))
      [ true ↦ flag_solid (codes f.name) f.place h | false ↦ number_solid (codes f.name) f.place h ]

  bits_solid : (low n : ℕ) → EachSolid (bit_tokens value low n)
  unfolding bit_tokens is_blank
  bits_solid low zero = tt
  bits_solid low (suc n) =
      let name : Token = codes "bit" ++ decimal_of (low + n) in
      each_append (flag_tokens value name (bit (low + n))) (bit_tokens value low n)
      (flag_solid name (bit (low + n)) (solid_append (codes "bit") (decimal_of (low + n)) tt (decimal_solid (low + n))))
      (bits_solid low n)

  below_solid : (fs : List Field) (top : ℕ) (gs : List Field) → T (descend fs top gs) → EachSolid (tokens_below value top gs)
  unfolding tokens_below
  below_solid fs top [] h = bits_solid 0 top
  below_solid fs top (f ∷ gs) h =
      let p : Place = f.place in
      let bits : List Token = bit_tokens value (above p) (top - above p) in
      let name = and_yes (known fs f) _ h in
      let rest = and_yes (inside p) _ name.1 in
      each_append (bits ++ field_tokens value f) (tokens_below value p.at gs)
      (each_append bits (field_tokens value f) (bits_solid (above p) (top - above p)) (field_solid f (and_yes (solid (codes f.name)) _ name.0).0))
      (below_solid fs p.at gs (and_yes (leb (above p) top) (descend fs p.at gs) rest.1).1)

-- ---- the value
of_register : (n : ℕ) (done : List ℕ) (r : Register) (value : ℕ) → Name done 5 → value < 2 ^ 32 →
    value_in r (field_columns (register_lines n done r value)) ≡ value
of_register n done r value h l =
    let fs : List Field = fields_of r in
    let both = and_yes (other_names fs) (descend fs 32 fs) (tested r) in
    let head : List ℕ = head_of n done r value in
    let ts : List Token = tokens_of r value in
    let tokens : tokens_in (field_columns (lines_from head ts)) ≡ ts =
    ap (λ (line : List ℕ). tokens_in (field_columns (lines_from line ts))) (sym (append-nil head))
    ∙ laid_tokens head [] ts (length_head n done r value h) tt (below_solid value fs 32 fs both.1) in
    ap (sum_of fs) tokens ∙ below_sum fs value 32 fs both.0 both.1 (le_refl 32) ∙ mod-eq_of_lt l

module _ (n code value : ℕ) (r : Register) (small : value < 2 ^ 32) where
  pub value_read : access_of code ≡ Some (Read r) → value_in r (field_columns (entry_lines n code value)) ≡ value
  unfolding entry_lines
  value_read e = rw e (of_register n (codes "read") r value (name_by 5 (codes "read") tt) small)

  pub value_written : access_of code ≡ Some (Write r) → value_in r (field_columns (entry_lines n code value)) ≡ value
  unfolding entry_lines
  value_written e = rw e (of_register n (codes "write") r value (name_by 5 (codes "write") tt) small)
