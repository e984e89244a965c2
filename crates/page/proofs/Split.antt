-- The tokens that stand from column 31 on in the lines of an entry are those that were laid out, if none has a blank in it.
-- Assumes nothing.
use Prim.Native.Nat.{ℕ, zero, suc, ◌+◌, ◌-◌}
use native.Mathlib.Omega.{arith}
use mathlib.Core.Path.{◌≡◌, refl, sym, ap, ◌∙◌}
use mathlib.Core.Bool.{Bool, true, false, cond, not, ◌&&◌}
use mathlib.Core.List.{List, [], ◌∷◌, ◌++◌, append_assoc, append-nil}
use lib.Dec.{T, leb}
use lib.Ieee.Bits.{is_false}
use lib.ListN.{length, drop}
use lib.Seq.{append_snoc, drop-append-add}
use mir.Facts.{and_yes}
use Rattle.numerals.specs.Words.{is_blank}
use Rattle.page.specs.Back.{field_columns, ended, split_after, tokens_in}
use Rattle.page.specs.Page.{spaces, filled, lines_from}
use Rattle.page.specs.Tokens.{Token}

-- no character is a blank; and there is one
abbrev pub unbroken : List ℕ → Bool
unbroken [] = true
unbroken (c ∷ s) = not (is_blank c) && unbroken s

abbrev pub solid : Token → Bool
solid [] = false
solid (c ∷ t) = unbroken (c ∷ t)

abbrev pub EachSolid : List Token → Type 0
EachSolid [] = Unit {0}
EachSolid (t ∷ ts) = T (solid t) × EachSolid ts

-- ---- splitting at blanks
-- a blank ends the token before it
at_blank : (b : ℕ) → is_blank b ≡ true → (t s rest : List ℕ) → split_after t (s ++ b ∷ rest) ≡ split_after t s ++ tokens_in rest
at_blank b e t [] rest = rw e
at_blank b e t (c ∷ s) rest =
    let u : Token = t ++ (c ∷ []) in
    elim (is_blank c)
    as (λ q. cond q (ended t ++ tokens_in (s ++ b ∷ rest)) (split_after u (s ++ b ∷ rest)) ≡ cond q (ended t ++ tokens_in s) (split_after u s) ++ tokens_in rest) [
      | true ↦ rw (at_blank b e [] s rest) (sym (append_assoc (ended t) (tokens_in s) (tokens_in rest)))
      | false ↦ at_blank b e u s rest
    ]

-- spaces hold no token
no_tokens : (n : ℕ) → tokens_in (spaces n) ≡ []
unfolding is_blank
no_tokens zero = refl
no_tokens (suc n) = no_tokens n

before_spaces : (s : List ℕ) (n : ℕ) → tokens_in (s ++ spaces n) ≡ tokens_in s
unfolding is_blank
before_spaces s zero = ap tokens_in (append-nil s)
before_spaces s (suc n) = at_blank 32 refl [] s (spaces n) ∙ rw (no_tokens n) (append-nil (tokens_in s))

-- a solid text is one token
run : (t s : List ℕ) → T (unbroken s) → split_after t s ≡ ended (t ++ s)
run t [] h = ap ended (sym (append-nil t))
run t (c ∷ s) h =
    let both = and_yes (not (is_blank c)) (unbroken s) h in
    rw (is_false (is_blank c) both.0) (run (t ++ (c ∷ [])) s both.1 ∙ ap ended (append_snoc t c s))

one_token : (t : Token) → T (solid t) → tokens_in t ≡ t ∷ []
one_token [] h = absurd h
one_token (c ∷ t) h = run [] (c ∷ t) h

next_token : (s : List ℕ) (t : Token) → T (solid t) → tokens_in (s ++ (spaces 1 ++ t)) ≡ tokens_in s ++ (t ∷ [])
unfolding is_blank
next_token s t h = at_blank 32 refl [] s t ∙ rw (one_token t h)

-- ---- the lines of an entry
-- What follows column 29 is nothing or begins with a blank, so the tokens from column 31 on are those from column 30 on.
abbrev pub Begins : List ℕ → Type 0
Begins [] = Unit {0}
Begins (c ∷ s) = is_blank c ≡ true

without_first : (s : List ℕ) → Begins s → tokens_in (drop 1 s) ≡ tokens_in s
without_first [] h = refl
without_first (c ∷ s) h = rw h

begins_still : (s t : List ℕ) → Begins s → Begins t → Begins (s ++ t)
begins_still [] t h l = l
begins_still (c ∷ s) t h l = h

begins_spaces : (n : ℕ) → Begins (spaces n)
unfolding is_blank
begins_spaces zero = tt
begins_spaces (suc n) = refl

first_line : (p s : List ℕ) (ls : List (List ℕ)) → length p ≡ 29 → Begins s →
    tokens_in (field_columns (filled 80 (p ++ s) ∷ ls)) ≡ tokens_in s ++ tokens_in (field_columns ls)
unfolding is_blank
first_line p s ls w b =
    let n : ℕ = 80 - length (p ++ s) in
    let e : length p + 1 ≡ 30 = omega arith in
    let after : drop 30 (p ++ (s ++ spaces n)) ≡ drop 1 (s ++ spaces n) = rw e at (drop-append-add p (s ++ spaces n) 1) in
    rw (append_snoc (drop 30 (filled 80 (p ++ s))) 10 (field_columns ls), append_assoc p s (spaces n), after)
    (at_blank 10 refl [] (drop 1 (s ++ spaces n)) (field_columns ls)
    ∙ rw (without_first (s ++ spaces n) (begins_still s (spaces n) b (begins_spaces n)), before_spaces s n))

-- tokens laid out after the 29 columns p, where s stands already
pub laid_tokens : (p s : List ℕ) (ts : List Token) → length p ≡ 29 → Begins s → EachSolid ts →
    tokens_in (field_columns (lines_from (p ++ s) ts)) ≡ tokens_in s ++ ts
unfolding lines_from is_blank
laid_tokens p s [] w b h = first_line p s [] w b
laid_tokens p s (t ∷ ts) w b h =
    elim (leb (length (p ++ s) + (1 + length t)) 80)
    as (λ q. tokens_in (field_columns (cond q (lines_from (p ++ s ++ spaces 1 ++ t) ts) (filled 80 (p ++ s) ∷ lines_from (spaces 30 ++ t) ts))) ≡ tokens_in s ++ t ∷ ts) [
      | true ↦ rw (append_assoc (p ++ s) (spaces 1) t, append_assoc p s (spaces 1 ++ t))
          (laid_tokens p (s ++ (spaces 1 ++ t)) ts w (begins_still s (spaces 1 ++ t) b refl) h.1
          ∙ rw (next_token s t h.0) (append_snoc (tokens_in s) t ts))
      | false ↦ first_line p s (lines_from (spaces 30 ++ t) ts) w b
          ∙ rw (laid_tokens (spaces 29) (spaces 1 ++ t) ts refl refl h.1, one_token t h.0)
    ]
