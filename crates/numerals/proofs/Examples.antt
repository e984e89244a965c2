-- Worked examples of the definitions, which antt computes. Assumes nothing.
use Rattle.std.specs.Prelude.{Option, Some, None}
use Prim.Native.Nat.{ℕ}
use Prim.Native.Char.{code}
use Prim.Native.String.{String}
use Prim.Native.String as text
use mathlib.Core.Path.{◌≡◌, refl}
use mathlib.Core.List.{List, [], ◌∷◌, map}
use lib.ListN.{replicate}
use Rattle.numerals.specs.Numbers.{digit_of, number_of, is_hex, parsed_of, hex_digit_of, spelled_of, hex_of, significant_of, decimal_of}
use Rattle.numerals.specs.Words.{is_blank, first_word, after_word}

abbrev codes : String → List ℕ
codes text.[] = []
codes (text.◌∷◌ c s) = code c ∷ codes s

abbrev parses : List String → List (Option ℕ)
parses = map (λ (s : String). parsed_of (codes s))

numbers : parses ("0" ∷ "0007" ∷ "4294967295" ∷ "0x1F" ∷ "0Xffffffff" ∷ []) ≡ Some 0 ∷ Some 7 ∷ Some 4294967295 ∷ Some 31 ∷ Some 4294967295 ∷ []
unfolding parsed_of is_hex number_of digit_of
numbers = refl

no_numbers : parses ("" ∷ "0x" ∷ "-1" ∷ " 1" ∷ "1F" ∷ "0x1G" ∷ "4294967296" ∷ "0x100000000" ∷ []) ≡ replicate 8 None
unfolding parsed_of is_hex number_of digit_of
no_numbers = refl

spelled : hex_of 8 0x60FB1C39 ≡ codes "60FB1C39"
unfolding spelled_of hex_digit_of
spelled = refl

decimal : map decimal_of (0 ∷ 7 ∷ 10 ∷ 4294967295 ∷ 18446744073709551615 ∷ []) ≡ map codes ("0" ∷ "7" ∷ "10" ∷ "4294967295" ∷ "18446744073709551615" ∷ [])
unfolding spelled_of hex_digit_of significant_of
decimal = refl

word : first_word (codes " 8000000\t400000") ≡ codes "8000000"
unfolding is_blank
word = refl

after : after_word (codes " 8000000\t400000") ≡ codes "\t400000"
unfolding is_blank
after = refl
