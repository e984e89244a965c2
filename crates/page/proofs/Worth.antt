-- The tokens of a value, each read by its name, are worth the value together. Assumes nothing.
use Prim.Native.Nat.{ℕ, zero, suc, ◌+◌, ◌-◌, ◌*◌, ◌%◌, ◌^◌, ◌≤◌, ◌<◌}
use native.Mathlib.Nat.{add_comm, zero-add, add-zero, one-mul, zero-mul}
use native.Mathlib.Omega.{arith}
use mathlib.Core.Path.{◌≡◌, refl, sym, ap, ◌∙◌}
use mathlib.Core.Bool.{Bool, true, false, cond, not, ◌&&◌}
use mathlib.Core.List.{List, [], ◌∷◌, ◌++◌, append-nil, append_assoc}
use lib.Dec.{T, eqb, leb, ltb, eqb→eq, leb→le, ltb→lt, lt→ltb, le→leb}
use lib.Ieee.Bits.{is_true, is_false}
use lib.Pow.{pow_mono, mod-pow-add}
use mir.Facts.{and_yes, yes_and}
use borrow.Author.Tests.{eqb-true, eqb-false}
use Rattle.fields.specs.Field.{Place, bit, inside, bits_at, get_of, flag_of}
use Rattle.fields.proofs.Laws.{get_lt}
use Rattle.numerals.specs.Numbers.{decimal_of}
use Rattle.numerals.specs.Words.{take_while, drop_while}
use Rattle.registers.specs.Fields.{Field}
use Rattle.window.specs.Codes.{codes}
use Rattle.page.specs.Back.{same, in_name, number_or_one, worth, sum_of}
use Rattle.page.specs.Tokens.{Token, flag_tokens, number_tokens, field_tokens, bit_tokens, above, tokens_below}
use Rattle.page.proofs.Split.{solid}
use Rattle.page.proofs.Decimal.{decimal_back}

-- ---- a token of a field
-- where the first field of a name begins; 32 if there is none
abbrev pub place_in : List Field → List ℕ → ℕ
place_in [] name = 32
place_in (f ∷ fs) name = cond (same name (codes f.name)) f.place.at (place_in fs name)

found : (fs : List Field) (t : Token) → place_in fs (take_while in_name t) < 32 →
    worth fs t ≡ number_or_one (drop_while in_name t) * 2 ^ place_in fs (take_while in_name t)
unfolding worth
found [] t h = absurd (omega arith)
found (f ∷ fs) t h =
    let name : List ℕ = take_while in_name t in
    let n : ℕ = number_or_one (drop_while in_name t) in
    let at : ℕ = f.place.at in
    (elim (same name (codes f.name))
    as (λ q. cond q at (place_in fs name) < 32 → cond q (n * 2 ^ at) (worth fs t) ≡ n * 2 ^ cond q at (place_in fs name))
    [ true ↦ λ _. refl | false ↦ found fs t ]) h

-- a name has no `=`
abbrev pub plain : List ℕ → Bool
plain [] = true
plain (c ∷ s) = in_name c && plain s

module _ (t : List ℕ) where
  name_taken : (s : List ℕ) → T (plain s) → take_while in_name (s ++ t) ≡ s ++ take_while in_name t
  name_taken [] h = refl
  name_taken (c ∷ s) h = let both = and_yes (in_name c) (plain s) h in rw (is_true (in_name c) both.0, name_taken s both.1)

  name_dropped : (s : List ℕ) → T (plain s) → drop_while in_name (s ++ t) ≡ drop_while in_name t
  name_dropped [] h = refl
  name_dropped (c ∷ s) h = let both = and_yes (in_name c) (plain s) h in rw (is_true (in_name c) both.0, name_dropped s both.1)

-- A field is known by its name if that is a token, and the first field of that name begins where this one does.
abbrev pub known : List Field → Field → Bool
known fs f = solid (codes f.name) && (plain (codes f.name) && eqb (place_in fs (codes f.name)) f.place.at)

-- its name, and what follows it: nothing, or `=` and a number
named : (fs : List Field) (f : Field) (t : List ℕ) → T (known fs f) → T (inside f.place) → take_while in_name t ≡ [] → drop_while in_name t ≡ t →
    worth fs (codes f.name ++ t) ≡ number_or_one t * 2 ^ f.place.at
named fs f t h i e d =
    let name : List ℕ = codes f.name in
    let both = and_yes (plain name) (eqb (place_in fs name) f.place.at) (and_yes (solid name) _ h).1 in
    let whole : take_while in_name (name ++ t) ≡ name = name_taken t name both.0 ∙ rw e (append-nil name) in
    let there : place_in fs (take_while in_name (name ++ t)) ≡ f.place.at = rw whole (eqb→eq _ _ both.1) in
    found fs (name ++ t) (rw there (ltb→lt _ _ (and_yes (ltb f.place.at 32) _ i).0)) ∙ rw (there, name_dropped t name both.0, d)

-- ---- a bit of no field: no field's name begins with `b` (98)
abbrev pub other_name : List ℕ → Bool
other_name [] = true
other_name (c ∷ s) = not (eqb 98 c)

abbrev pub other_names : List Field → Bool
other_names [] = true
other_names (f ∷ fs) = other_name (codes f.name) && other_names fs

not_same : (s t : List ℕ) → T (other_name t) → same (98 ∷ s) t ≡ false
not_same s [] h = refl
not_same s (c ∷ t) h = rw (is_false (eqb 98 c) h)

unnamed : (fs : List Field) (n : ℕ) → T (other_names fs) → n < 32 → worth fs (codes "bit" ++ decimal_of n) ≡ 2 ^ n
unfolding worth
unnamed [] n h l = rw (decimal_back n (omega arith))
unnamed (f ∷ fs) n h l =
    let both = and_yes (other_name (codes f.name)) (other_names fs) h in
    rw (not_same (take_while in_name (codes "it" ++ decimal_of n)) (codes f.name) both.0) (unnamed fs n both.1 l)

-- ---- what tokens are worth together
sum_append : (fs : List Field) (ts us : List Token) → sum_of fs (ts ++ us) ≡ sum_of fs ts + sum_of fs us
sum_append fs [] us = sym (zero-add (sum_of fs us))
sum_append fs (t ∷ ts) us = rw (sum_append fs ts us) (omega arith)

-- a field and the bits below it are the bits below its end
with_below : (value : ℕ) (p : Place) → T (inside p) → get_of value p * 2 ^ p.at + value % 2 ^ p.at ≡ value % 2 ^ above p
unfolding get_of bits_at
with_below value p h =
    rw (is_true (inside p) h) (sym (mod-pow-add value p.width p.at) ∙ ap (λ (k : ℕ). value % 2 ^ k) (add_comm p.width p.at))

flag_sum : (fs : List Field) (value : ℕ) (name : Token) (p : Place) → p.width ≡ 1 → worth fs name ≡ 2 ^ p.at →
    sum_of fs (flag_tokens value name p) ≡ get_of value p * 2 ^ p.at
unfolding flag_tokens
flag_sum fs value name p w e = by (flag_of value p) refl
  where
    by : (q : Bool) → flag_of value p ≡ q → sum_of fs (cond q (name ∷ []) []) ≡ get_of value p * 2 ^ p.at
    by true h = rw (eqb-true (get_of value p) 1 h, e, one-mul) (add-zero (2 ^ p.at))
    by false h =
        let none : get_of value p ≡ 0 = omega (arith, get_lt value p, ap (λ (k : ℕ). 2 ^ k) w, eqb-false (get_of value p) 1 h) in
        rw (none, zero-mul)

module _ (fs : List Field) (value : ℕ) (f : Field) (h : T (known fs f)) (i : T (inside f.place)) where
  flag_field : f.place.width ≡ 1 → sum_of fs (flag_tokens value (codes f.name) f.place) ≡ get_of value f.place * 2 ^ f.place.at
  flag_field w =
      flag_sum fs value (codes f.name) f.place w
      (ap (worth fs) (sym (append-nil (codes f.name))) ∙ named fs f [] h i refl refl ∙ one-mul (2 ^ f.place.at))

  number_field_holds : sum_of fs (number_tokens value (codes f.name) f.place) ≡ get_of value f.place * 2 ^ f.place.at
  unfolding number_tokens
  number_field_holds =
      let n : ℕ = get_of value f.place in
      let width : f.place.width ≤ 32 - f.place.at = leb→le _ _ (and_yes (ltb f.place.at 32) _ i).1 in
      let less : 2 ^ f.place.width ≤ 2 ^ 32 = pow_mono {j = 32} (omega arith) in
      rw (
        append_assoc (codes f.name) (codes "=") (decimal_of n),
        named fs f (codes "=" ++ decimal_of n) h i refl refl,
        decimal_back n (omega (arith, get_lt value f.place)),
      )
      (add-zero _)

  field_sum : sum_of fs (field_tokens value f) ≡ get_of value f.place * 2 ^ f.place.at
  field_sum = by (eqb f.place.width 1) refl
    where
      by : (q : Bool) → eqb f.place.width 1 ≡ q →
          sum_of fs (cond q (flag_tokens value (codes f.name) f.place) (number_tokens value (codes f.name) f.place))
          ≡ get_of value f.place * 2 ^ f.place.at
      by true e = flag_field (eqb-true f.place.width 1 e)
      by false e = number_field_holds

bits_sum : (fs : List Field) (value low n : ℕ) → T (other_names fs) → low + n ≤ 32 →
    sum_of fs (bit_tokens value low n) + value % 2 ^ low ≡ value % 2 ^ (low + n)
unfolding bit_tokens
bits_sum fs value low zero h l = rw (zero-add, add-zero)
bits_sum fs value low (suc n) h l =
    let k : ℕ = low + n in
    let flag = flag_sum fs value (codes "bit" ++ decimal_of k) (bit k) refl (unnamed fs k h (omega arith)) in
    let within : T (inside (bit k)) = yes_and (ltb k 32) (leb 1 (32 - k)) (lt→ltb k 32 (omega arith)) (le→leb 1 (32 - k) (omega arith)) in
    let e : low + suc n ≡ k + 1 = omega arith in
    rw (e, sum_append) (omega (arith, flag, with_below value (bit k) within, bits_sum fs value low n h (omega arith)))

-- ---- fields gs of fs from the top down: each is known, and ends at or below bit `top`, the one after it where it begins
abbrev pub descend : List Field → ℕ → List Field → Bool
descend fs top [] = true
descend fs top (f ∷ gs) = known fs f && (inside f.place && (leb (above f.place) top && descend fs f.place.at gs))

pub below_sum : (fs : List Field) (value top : ℕ) (gs : List Field) → T (other_names fs) → T (descend fs top gs) → top ≤ 32 →
    sum_of fs (tokens_below value top gs) ≡ value % 2 ^ top
unfolding tokens_below
below_sum fs value top [] h d l = omega (arith, bits_sum fs value 0 top h (omega arith), ap (λ (k : ℕ). value % 2 ^ k) (zero-add top))
below_sum fs value top (f ∷ gs) h d l =
    let p : Place = f.place in
    let name = and_yes (known fs f) _ d in
    let here = and_yes (inside p) _ name.1 in
    let rest = and_yes (leb (above p) top) (descend fs p.at gs) here.1 in
    let high : above p ≤ top = leb→le (above p) top rest.0 in
    let e : above p + (top - above p) ≡ top = omega arith in
    rw (sum_append, sum_append)
    (omega (
      arith,
      bits_sum fs value (above p) (top - above p) h (omega arith),
      ap (λ (k : ℕ). value % 2 ^ k) e,
      field_sum fs value f name.0 here.0,
      with_below value p here.0,
      below_sum fs value p.at gs h rest.1 (omega arith),
    ))
