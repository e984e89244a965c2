-- Words and their bytes undo each other. Assumes nothing.
use Prim.Native.Nat.{ℕ, zero, suc, ◌+◌, ◌*◌, ◌/◌, ◌%◌, ◌<◌}
use native.Mathlib.Nat.{zero-add, suc-add}
use native.Mathlib.Omega.{arith}
use mathlib.Core.Path.{◌≡◌, refl, sym, ap, ◌∙◌}
use mathlib.Core.List.{List, [], ◌∷◌, ◌++◌, append-nil}
use lib.Dec.{lit<}
use lib.ListN.{length, get_or, drop, length-append}
use Rattle.words.specs.Words.{word_of, words_from, words_in, bytes_in, bytes_of, Below}
use Rattle.words.proofs.Turns.{length_bytes}

low_first : (w q p o r s t : ℕ) → w ≡ r + 256 * q → q ≡ s + 256 * p → p ≡ t + 256 * o → word_of r s t o ≡ w
low_first w q p o r s t e f g = omega arith

pub word_back : (w : ℕ) → w < 4294967296 → word_of (w % 256) (w / 256 % 256) (w / 65536 % 256) (w / 16777216 % 256) ≡ w
word_back w h =
    let e : w / 65536 ≡ w / 256 / 256 = omega arith in
    let f : w / 16777216 ≡ w / 256 / 256 / 256 = omega arith in
    let g : w / 16777216 % 256 ≡ w / 16777216 = omega arith in
    let split : (n : ℕ) → n ≡ n % 256 + 256 * (n / 256) = λ n. omega arith in
    let q : ℕ = w / 256 in
    let p : ℕ = q / 256 in
    rw (g, e, f) (low_first w q p (p / 256) (w % 256) (q % 256) (p % 256) (split w) (split q) (split p))

pub bytes_back : (a b c d : ℕ) → a < 256 → b < 256 → c < 256 → d < 256 → bytes_in (word_of a b c d) ≡ a ∷ b ∷ c ∷ d ∷ []
bytes_back a b c d h i j k =
    let w : ℕ = word_of a b c d in
    let e : w % 256 ≡ a = omega arith in
    let f : w / 256 ≡ b + 256 * (c + 256 * d) = omega arith in
    let g : w / 65536 ≡ c + 256 * d = omega arith in
    let l : w / 16777216 ≡ d = omega arith in
    let m : (b + 256 * (c + 256 * d)) % 256 ≡ b = omega arith in
    let n : (c + 256 * d) % 256 ≡ c = omega arith in
    let o : d % 256 ≡ d = omega arith in
    rw (e, f, g, l, m, n, o)

from_bytes : (ws : List ℕ) (n : ℕ) (more : List ℕ) → Below 4294967296 ws →
    words_from (length ws + n) (bytes_of ws ++ more) ≡ ws ++ words_from n more
from_bytes [] n more h = rw zero-add
from_bytes (w ∷ ws) n more h = rw (suc-add, word_back w h.0, from_bytes ws n more h.1)

-- reading the words that were written gives them back, whatever bytes follow
pub words_before : (ws more : List ℕ) → Below 4294967296 ws → words_in (bytes_of ws ++ more) ≡ ws ++ words_in more
unfolding words_in
words_before ws more h =
    let e : length (bytes_of ws ++ more) / 4 ≡ length ws + length more / 4 =
    omega (arith, length_bytes ws, length-append (bytes_of ws) more) in
    rw e (from_bytes ws (length more / 4) more h)

pub words_back : (ws : List ℕ) → Below 4294967296 ws → words_in (bytes_of ws) ≡ ws
unfolding words_in
words_back ws h = ap words_in (sym (append-nil (bytes_of ws))) ∙ words_before ws [] h ∙ append-nil ws

-- and writing those that were read gives the bytes back
of_words : (n : ℕ) (bytes : List ℕ) → length bytes ≡ 4 * n → Below 256 bytes → bytes_of (words_from n bytes) ≡ bytes
of_words zero [] e h = refl
of_words zero (a ∷ bytes) e h = absurd (omega arith)
of_words (suc n) [] e h = absurd (omega arith)
of_words (suc n) (a ∷ []) e h = absurd (omega arith)
of_words (suc n) (a ∷ b ∷ []) e h = absurd (omega arith)
of_words (suc n) (a ∷ b ∷ c ∷ []) e h = absurd (omega arith)
of_words (suc n) (a ∷ b ∷ c ∷ d ∷ bytes) e h =
    ap (λ (s : List ℕ). s ++ bytes_of (words_from n bytes)) (bytes_back a b c d h.0 h.1.0 h.1.1.0 h.1.1.1.0)
    ∙ ap (λ (s : List ℕ). a ∷ b ∷ c ∷ d ∷ s) (of_words n bytes (omega arith) h.1.1.1.1)

pub whole_words : (n : ℕ) (bytes : List ℕ) → length bytes ≡ 4 * n → Below 256 bytes → bytes_of (words_in bytes) ≡ bytes
unfolding words_in
whole_words n bytes e h = (let f : length bytes / 4 ≡ n = omega arith in rw f (of_words n bytes e h))

-- ---- bytes make words
pub below_at : (n : ℕ) (b : List ℕ) (i : ℕ) → Below n b → 0 < n → get_or b i 0 < n
below_at n [] i h z = z
below_at n (x ∷ b) zero h z = h.0
below_at n (x ∷ b) (suc i) h z = below_at n b i h.1 z

pub all_below : (n : ℕ) (b : List ℕ) → ((i : ℕ) → get_or b i 0 < n) → Below n b
all_below n [] h = tt
all_below n (x ∷ b) h = (h 0, all_below n b (λ i. h (suc i)))

below_drop : (n i : ℕ) (b : List ℕ) → Below n b → Below n (drop i b)
below_drop n zero b h = h
below_drop n (suc i) [] h = tt
below_drop n (suc i) (x ∷ b) h = below_drop n i b h.1

words_from_holds : (n : ℕ) (b : List ℕ) → Below 256 b → Below 4294967296 (words_from n b)
words_from_holds zero b h = tt
words_from_holds (suc n) b h =
    let at : (i : ℕ) → get_or b i 0 < 256 = λ i. below_at 256 b i h (lit< tt) in
    (omega (arith, at 0, at 1, at 2, at 3), words_from_holds n (drop 4 b) (below_drop 256 4 b h))

pub bytes_make_words : (b : List ℕ) → Below 256 b → Below 4294967296 (words_in b)
unfolding words_in
bytes_make_words b h = words_from_holds (length b / 4) b h
