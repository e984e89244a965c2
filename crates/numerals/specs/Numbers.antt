-- Numbers as text, a list of ASCII codes with the highest digit first. Assumes nothing.
use Rattle.std.specs.Prelude.{ℕ, zero, suc, ◌+◌, ◌-◌, ◌*◌, ◌/◌, ◌%◌, Bool, true, cond, ◌&&◌, ◌||◌, List, [], ◌∷◌, ◌++◌, eqb, leb, ltb, length, get_or, drop, Option, Some, None}

-- what a digit stands for: `0` to `9` are 48 to 57, `A` to `F` 65 to 70, `a` to `f` 97 to 102; 16, a digit in no base, for any other byte
unfoldable pub digit_of : ℕ → ℕ
digit_of b =
    cond (ltb b 48) 16
    (cond (ltb b 58) (b - 48)
    (cond (ltb b 65) 16
    (cond (ltb b 71) (b - 65 + 10)
    (cond (ltb b 97) 16
    (cond (ltb b 103) (b - 97 + 10) 16)))))

abbrev pub all_digits : ℕ → List ℕ → Bool
all_digits base [] = true
all_digits base (b ∷ s) = ltb (digit_of b) base && all_digits base s

-- the value of digits of the value v, and then the digits s
abbrev pub value_after : ℕ → ℕ → List ℕ → ℕ
value_after base v [] = v
value_after base v (b ∷ s) = value_after base (v * base + digit_of b) s

-- one digit or more, of a value that 32 bits hold
unfoldable pub number_of : ℕ → List ℕ → Option ℕ
number_of base s =
    let v = value_after base 0 s in
    cond (ltb 0 (length s) && (all_digits base s && leb v 4294967295)) (Some v) None

-- s begins with `0` (48) and `x` (120) or `X` (88)
unfoldable pub is_hex : List ℕ → Bool
is_hex s = leb 2 (length s) && (eqb (get_or s 0 0) 48 && (eqb (get_or s 1 0) 120 || eqb (get_or s 1 0) 88))

unfoldable pub parsed_of : List ℕ → Option ℕ
parsed_of s = cond (is_hex s) (number_of 16 (drop 2 s)) (number_of 10 s)

-- the digit for a number below 16, the letters capital
unfoldable pub hex_digit_of : ℕ → ℕ
hex_digit_of d = cond (ltb d 10) (48 + d) (65 + (d - 10))

-- the last k digits of n in a base
unfoldable pub spelled_of : ℕ → ℕ → ℕ → List ℕ
spelled_of base zero n = []
spelled_of base (suc k) n = spelled_of base k (n / base) ++ (hex_digit_of (n % base) ∷ [])

-- without the zeros (48) before the first other digit; the last digit stays
unfoldable pub significant_of : List ℕ → List ℕ
significant_of [] = []
significant_of (d ∷ []) = d ∷ []
significant_of (d ∷ e ∷ s) = cond (eqb d 48) (significant_of (e ∷ s)) (d ∷ e ∷ s)

-- in hexadecimal, k digits, zeros in front
abbrev pub hex_of : ℕ → ℕ → List ℕ
hex_of k n = spelled_of 16 k n

-- in decimal: 20 digits hold 64 bits
abbrev pub decimal_of : ℕ → List ℕ
decimal_of n = significant_of (spelled_of 10 20 n)
