-- Words of 32 bits as bytes, the low byte first. Assumes nothing.
use Rattle.std.specs.Prelude.{ℕ, zero, suc, ◌+◌, ◌*◌, ◌/◌, ◌%◌, ◌<◌, cond, List, [], ◌∷◌, ◌++◌, leb, length, get_or, take, drop}

abbrev pub word_of : ℕ → ℕ → ℕ → ℕ → ℕ
word_of a b c d = a + 256 * b + 65536 * c + 16777216 * d

-- the first n words of bytes, and all whole ones
abbrev pub words_from : ℕ → List ℕ → List ℕ
words_from zero bytes = []
words_from (suc n) bytes = word_of (get_or bytes 0 0) (get_or bytes 1 0) (get_or bytes 2 0) (get_or bytes 3 0) ∷ words_from n (drop 4 bytes)

unfoldable pub words_in : List ℕ → List ℕ
words_in bytes = words_from (length bytes / 4) bytes

-- word number i, 0 past the last
abbrev pub word_at : List ℕ → ℕ → ℕ
word_at bytes i = get_or (words_in bytes) i 0

-- Words read into a slice, those from number i on: as many as it has room for stand first, and its others are as they were.
pub record Decoded : Type 0 where
  pub count : ℕ
  pub words : List ℕ

abbrev pub as_decoded : ℕ → List ℕ → Decoded
as_decoded n words = record { count = n; words = words }

unfoldable pub decoded_of : ℕ → List ℕ → List ℕ → Decoded
decoded_of i bytes words =
    let ws : List ℕ = take (length words) (drop i (words_in bytes)) in
    record { count = length ws; words = ws ++ drop (length ws) words }

-- the bytes of a word, and of words one after the other
abbrev pub bytes_in : ℕ → List ℕ
bytes_in w = w % 256 ∷ w / 256 % 256 ∷ w / 65536 % 256 ∷ w / 16777216 % 256 ∷ []

abbrev pub bytes_of : List ℕ → List ℕ
bytes_of [] = []
bytes_of (w ∷ ws) = bytes_in w ++ bytes_of ws

-- words put at the start of bytes, if there is room for all of them
unfoldable pub put_words : List ℕ → List ℕ → List ℕ
put_words ws bytes = cond (leb (4 * length ws) (length bytes)) (bytes_of ws ++ drop (4 * length ws) bytes) bytes

-- and put from word number i on
abbrev pub put_words_at : ℕ → List ℕ → List ℕ → List ℕ
put_words_at i ws bytes = take (4 * i) bytes ++ put_words ws (drop (4 * i) bytes)

-- Every number of a list is below n: below 256 they are bytes, below 4294967296 words.
abbrev pub Below : ℕ → List ℕ → Type 0
Below n [] = Unit {0}
Below n (x ∷ xs) = (x < n) × Below n xs
