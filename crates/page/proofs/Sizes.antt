-- How much room the tokens of a register take: a bound by its fields, computed once for each register. Assumes nothing.
use Prim.Native.Nat.{ℕ, zero, suc, ◌+◌, ◌-◌, ◌/◌, ◌^◌, ◌≤◌, ◌<◌}
use native.Mathlib.Omega.{arith}
use mathlib.Core.Path.{◌≡◌, refl}
use mathlib.Core.Bool.{Bool, true, false, cond, ◌&&◌}
use mathlib.Core.List.{List, [], ◌∷◌, ◌++◌}
use lib.Dec.{T, eqb, leb, ltb, leb→le, lit≤}
use lib.ListN.{length, length-append}
use borrow.Author.Tests.{ltb-true}
use Rattle.fields.specs.Field.{Place, bit, get_of, flag_of}
use Rattle.fields.proofs.Laws.{and_l, and_r, get_lt}
use Rattle.numerals.specs.Numbers.{decimal_of}
use Rattle.registers.specs.Fields.{Field, fields_of}
use Rattle.registers.specs.declared.Register.{Register}
use Rattle.registers.specs.declared.Register.TheVariants.{Cr1, Cr2, Oar1, Oar2, Timingr, Isr, Icr, Rxdr, Txdr}
use Rattle.window.specs.Codes.{codes}
use Rattle.page.specs.Promises.{Printable}
use Rattle.page.specs.Tokens.{Token, flag_tokens, number_tokens, field_tokens, bit_tokens, above, tokens_below, tokens_of}
use Rattle.page.proofs.Texts.{few_digits, printable, printed, print_append, print_decimal}

-- ---- tokens, each with the space before it
abbrev pub total : List Token → ℕ
total [] = 0
total (t ∷ ts) = 1 + length t + total ts

-- none of them fills more than 11 columns, or has a character that cannot be printed
abbrev pub Each : List Token → Type 0
Each [] = Unit {0}
Each (t ∷ ts) = (length t ≤ 11) × Printable t × Each ts

pub record Sized (ts : List Token) (most : ℕ) : Type 0 where
  pub few : total ts ≤ most
  pub each : Each ts

wider : (ts : List Token) (m n : ℕ) → m ≤ n → Sized ts m → Sized ts n
wider ts m n h s = record { few = omega arith; each = s.each }

none : (m : ℕ) → Sized [] m
none m = record { few = omega arith; each = tt }

one : (t : Token) (m : ℕ) → 1 + length t ≤ m → m ≤ 12 → Printable t → Sized (t ∷ []) m
one t m h l p = record { few = omega arith; each = (omega arith, p, tt) }

total_append : (ts us : List Token) → total (ts ++ us) ≡ total ts + total us
total_append [] us = omega arith
total_append (t ∷ ts) us = omega (arith, total_append ts us)

each_append : (ts us : List Token) → Each ts → Each us → Each (ts ++ us)
each_append [] us h l = l
each_append (t ∷ ts) us h l = (h.0, h.1, each_append ts us h.2 l)

both : (ts us : List Token) (m n : ℕ) → Sized ts m → Sized us n → Sized (ts ++ us) (m + n)
both ts us m n s t = record { few = omega (arith, total_append ts us); each = each_append ts us s.each t.each }

-- ---- a flag, which may be set
flag : (value : ℕ) (name : Token) (p : Place) (m : ℕ) → 1 + length name ≤ m → m ≤ 12 → Printable name → Sized (flag_tokens value name p) m
unfolding flag_tokens
flag value name p m h l q = by (flag_of value p)
  where
    by : (b : Bool) → Sized (cond b (name ∷ []) []) m
    by true = one name m h l q
    by false = none m

-- ---- bits of no field: `bit`, and one digit or two
abbrev most_bit : ℕ → ℕ
most_bit i = cond (ltb i 10) 5 6

one_bit : (value i : ℕ) → i < 32 → Sized (flag_tokens value (codes "bit" ++ decimal_of i) (bit i)) (most_bit i)
one_bit value i h = by (ltb i 10) refl
  where
    plain : Printable (codes "bit" ++ decimal_of i)
    plain = print_append (codes "bit") (decimal_of i) (printed (codes "bit") tt) (print_decimal i)

    by : (b : Bool) → ltb i 10 ≡ b → Sized (flag_tokens value (codes "bit" ++ decimal_of i) (bit i)) (cond b 5 6)
    by true e = flag value (codes "bit" ++ decimal_of i) (bit i) 5 (omega (arith, few_digits 20 0 i (ltb-true i 10 e))) (lit≤ tt) plain
    by false e = flag value (codes "bit" ++ decimal_of i) (bit i) 6 (omega (arith, few_digits 20 1 i (omega arith))) (lit≤ tt) plain

abbrev most_bits : ℕ → ℕ → ℕ
most_bits low zero = 0
most_bits low (suc n) = most_bit (low + n) + most_bits low n

bits : (value low n : ℕ) → low + n ≤ 32 → Sized (bit_tokens value low n) (most_bits low n)
unfolding bit_tokens
bits value low zero h = none 0
bits value low (suc n) h =
    both _ (bit_tokens value low n) (most_bit (low + n)) (most_bits low n) (one_bit value (low + n) (omega arith)) (bits value low n (omega arith))

-- ---- a field: a number of w bits has at most 1 + threes w digits, which `fits` computes for the widths at hand
abbrev threes : ℕ → ℕ
threes w = (w - 1) / 3

-- the columns that it takes at most, with the space before it
abbrev most : Token → ℕ → ℕ
most name w = cond (eqb w 1) (1 + length name) (3 + (length name + threes w))

abbrev fits : Token → ℕ → Bool
fits name w = leb (most name w) 12 && (leb (2 ^ w) (10 ^ suc (threes w)) && printable name)

number : (value : ℕ) (name : Token) (p : Place) (k : ℕ) → 2 ^ p.width ≤ 10 ^ suc k → 3 + (length name + k) ≤ 12 → Printable name →
    Sized (number_tokens value name p) (3 + (length name + k))
unfolding number_tokens
number value name p k d h q =
    let n : ℕ = get_of value p in
    let l : length (decimal_of n) ≤ suc k = few_digits 20 k n (omega (arith, get_lt value p)) in
    let label : Token = name ++ codes "=" in
    one (label ++ decimal_of n) _ (simp length-append (omega arith)) h
    (print_append label (decimal_of n) (print_append name (codes "=") q (printed (codes "=") tt)) (print_decimal n))

by_width : (value : ℕ) (name : Token) (p : Place) (b : Bool) →
    cond b (1 + length name) (3 + (length name + threes p.width)) ≤ 12 → 2 ^ p.width ≤ 10 ^ suc (threes p.width) → Printable name →
    Sized (cond b (flag_tokens value name p) (number_tokens value name p)) (cond b (1 + length name) (3 + (length name + threes p.width)))
by_width value name p true h d q = flag value name p (1 + length name) (omega arith) h q
by_width value name p false h d q = number value name p (threes p.width) d h q

field_sized : (value : ℕ) (f : Field) → T (fits (codes f.name) f.place.width) → Sized (field_tokens value f) (most (codes f.name) f.place.width)
field_sized value f t =
    let name : Token = codes f.name in
    let w : ℕ = f.place.width in
    let u = and_r (leb (most name w) 12) _ t in
    let v : Bool = leb (2 ^ w) (10 ^ suc (threes w)) in
    by_width value name f.place (eqb w 1) (leb→le (most name w) 12 (and_l (leb (most name w) 12) _ t)) (leb→le (2 ^ w) _ (and_l v _ u)) (printed name (and_r v _ u))

-- ---- all bits below bit `top`
abbrev most_below : ℕ → List Field → ℕ
most_below top [] = most_bits 0 top
most_below top (f ∷ fs) = most_bits (above f.place) (top - above f.place) + most (codes f.name) f.place.width + most_below f.place.at fs

abbrev all_fit : List Field → Bool
all_fit [] = true
all_fit (f ∷ fs) = leb (above f.place) 32 && (fits (codes f.name) f.place.width && all_fit fs)

below : (value top : ℕ) (fs : List Field) → top ≤ 32 → T (all_fit fs) → Sized (tokens_below value top fs) (most_below top fs)
unfolding tokens_below
below value top [] h t = bits value 0 top (omega arith)
below value top (f ∷ fs) h t =
    let a : above f.place ≤ 32 = leb→le _ 32 (and_l (leb (above f.place) 32) _ t) in
    let u = and_r (leb (above f.place) 32) _ t in
    let ok : Bool = fits (codes f.name) f.place.width in
    both _ (tokens_below value f.place.at fs) _ (most_below f.place.at fs)
    (both _ (field_tokens value f) _ _ (bits value (above f.place) (top - above f.place) (omega arith)) (field_sized value f (and_l ok _ u)))
    (below value f.place.at fs (omega arith) (and_r ok _ u))

-- so those of a register take fewer than 200 columns
abbrev is_small : List Field → Bool
is_small fs = all_fit fs && leb (most_below 32 fs) 199

small : (r : Register) → T (is_small (fields_of r))
small Cr1 = tt
small Cr2 = tt
small Oar1 = tt
small Oar2 = tt
small Timingr = tt
small Isr = tt
small Icr = tt
small Rxdr = tt
small Txdr = tt

pub register_sized : (r : Register) (value : ℕ) → Sized (tokens_of r value) 199
register_sized r value =
    let fs : List Field = fields_of r in
    wider _ (most_below 32 fs) 199 (leb→le _ 199 (and_r (all_fit fs) _ (small r))) (below value 32 fs (lit≤ tt) (and_l (all_fit fs) _ (small r)))
