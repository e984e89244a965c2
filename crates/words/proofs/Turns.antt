-- Words read from bytes and put into bytes, one after the other. Assumes nothing.
use Prim.Native.Nat.{ℕ, zero, suc, ◌+◌, ◌-◌, ◌*◌, ◌/◌, ◌≤◌, ◌<◌, min}
use Rattle.std.proofs.lemmas.List.{take_min}
use native.Mathlib.Nat.{add_assoc}
use native.Mathlib.Numerals.{add-one}
use native.Mathlib.Omega.{arith}
use mathlib.Core.Path.{◌≡◌, refl, sym, ap, ◌∙◌}
use mathlib.Core.List.{List, [], ◌∷◌, ◌++◌, append_assoc, append-nil}
use lib.ListN.{length, get_or, take, drop, set, length-append, length-take, length-drop, drop_of_length-le, get_or-eq_default}
use lib.Seq.{take-nil, take_all, take-suc, take_at, take-append_seam, set_split, drop_at, drop-append-add, drop-drop, get_or-drop, sets, sets-eq, length-take-le}
use borrow.Author.Tests.{le-leb, lt-leb}
use Rattle.words.specs.Words.{word_of, words_from, words_in, word_at, Decoded, as_decoded, decoded_of, bytes_in, bytes_of, put_words, put_words_at}

-- ---- a word at its place
pub length_words : (n : ℕ) (b : List ℕ) → length (words_from n b) ≡ n
length_words zero b = refl
length_words (suc n) b = ap suc (length_words n (drop 4 b))

abbrev four : List ℕ → ℕ → ℕ
four b k = word_of (get_or b k 0) (get_or b (k + 1) 0) (get_or b (k + 2) 0) (get_or b (k + 3) 0)

four_drop : (b : List ℕ) (k m : ℕ) → m ≡ 4 + k → four (drop 4 b) k ≡ four b m
four_drop b k m e = rw (e, get_or-drop, get_or-drop, get_or-drop, get_or-drop) (simp add_assoc)

at_word : (n i : ℕ) (b : List ℕ) → i < n → get_or (words_from n b) i 0 ≡ four b (4 * i)
at_word zero i b h = absurd (omega arith)
at_word (suc n) zero b h = refl
at_word (suc n) (suc i) b h = at_word n i (drop 4 b) (omega arith) ∙ four_drop b (4 * i) (4 * suc i) (omega arith)

module _ (b : List ℕ) (i : ℕ) where
  pub word_there : i < length b / 4 → (r : ℕ) → r ≡ four b (4 * i) → r ≡ word_at b i
  unfolding words_in
  word_there h r e = e ∙ sym (at_word (length b / 4) i b h)

  pub no_word : length b / 4 ≤ i → 0 ≡ word_at b i
  unfolding words_in
  no_word h = sym (get_or-eq_default (words_from (length b / 4) b) 0 (rw (length_words (length b / 4) b) h))

pub ruleset gets = (word_there, no_word)

pub in_words : (b : List ℕ) → length (words_in b) ≡ length b / 4
unfolding words_in
in_words b = length_words (length b / 4) b

-- ---- decoding
pub rest : (s : List ℕ) (n : ℕ) → take (length s - n) (drop n s) ≡ drop n s
rest s n = take_all (length s - n) (drop n s) (simp length-drop (omega arith))

-- one word more stands at the front of what was `old`
pub next_decoded : (ws old now : List ℕ) (i w : ℕ) → now ≡ take i ws ++ drop i old → i < length ws → i < length now → w ≡ get_or ws i 0
    → set now i w ≡ take (i + 1) ws ++ drop (i + 1) old
next_decoded ws old now i w done some lt e =
    let front = length-take-le i ws (omega arith) in
    let behind : drop (suc i) now ≡ drop (suc i) old =
    rw (← add-one i, ← drop-drop 1 i now, done, drop_at (take i ws) (drop i old) i front) (drop-drop 1 i old) in
    rw (add-one, take-suc ws i 0 some, ← e)
    (set_split now i w lt ∙ rw (behind, done, take_at (take i ws) (drop i old) i front) (sym (append_assoc (take i ws) (w ∷ []) (drop (suc i) old))))

-- and all that there is room for
pub all_decoded : (file words now : List ℕ) (n i : ℕ) → n ≡ min (length words) (length file / 4) → n ≤ i → i ≤ n
    → now ≡ take i (words_in file) ++ drop i (take n words) → as_decoded n (now ++ drop n words) ≡ decoded_of 0 file words
unfolding decoded_of
all_decoded file words now n i e h k done =
    let ws : List ℕ = words_in file in
    let m : n ≡ min (length words) (length ws) = rw in_words e in
    let all : take n ws ≡ take (length words) ws = rw m (take_min (length words) ws) in
    let count : length (take (length words) ws) ≡ n = length-take (length words) ws ∙ sym m in
    let none : drop i (take n words) ≡ [] = drop_of_length-le (take n words) {i = i} (rw length-take (omega arith)) in
    let same : i ≡ n = omega arith in
    rw (count, done, none, append-nil, same, all)

-- what stands in the slice then
module _ (i : ℕ) (bytes words : List ℕ) (n : ℕ) (words' : List ℕ) (E : as_decoded n words' ≡ decoded_of i bytes words) where
  pub decoded_words : take n words' ≡ take (length words) (drop i (words_in bytes))
  unfolding decoded_of
  decoded_words =
      rw (ap (λ (D : Decoded). D.count) E, ap (λ (D : Decoded). D.words) E)
      (take-append_seam (take (length words) (drop i (words_in bytes))) _)

  pub decoded_room : n ≤ length words'
  unfolding decoded_of
  decoded_room = rw (ap (λ (D : Decoded). D.count) E, ap (λ (D : Decoded). D.words) E, length-append) (omega arith)

  pub decoded_count : n ≡ length (take n words')
  decoded_count = sym (length-take-le n words' decoded_room)

-- from word number i on
from_drop : (n i : ℕ) (b : List ℕ) → i ≤ n → words_from (n - i) (drop (4 * i) b) ≡ drop i (words_from n b)
from_drop n zero b h = (let e : n - zero ≡ n = omega arith in rw e)
from_drop zero (suc i) b h = absurd (omega arith)
from_drop (suc n) (suc i) b h =
    let e : 4 * suc i ≡ 4 + 4 * i = omega arith in
    let f : suc n - suc i ≡ n - i = omega arith in
    rw (e, f, ← drop-drop (4 * i) 4 b) (from_drop n i (drop 4 b) (omega arith))

pub words_drop : (b : List ℕ) (i : ℕ) → i ≤ length b / 4 → words_in (drop (4 * i) b) ≡ drop i (words_in b)
unfolding words_in
words_drop b i h =
    let e : (length b - 4 * i) / 4 ≡ length b / 4 - i = omega arith in
    rw (length-drop (4 * i) b, e) (from_drop (length b / 4) i b h)

module _ (b : List ℕ) (i : ℕ) (words : List ℕ) where
  pub none_from : length b / 4 < i → as_decoded 0 words ≡ decoded_of i b words
  unfolding decoded_of
  none_from h = rw (drop_of_length-le (words_in b) {i = i} (rw (in_words b) (omega arith)), take-nil (length words))

  pub some_from : (n : ℕ) (part words' : List ℕ) → i ≤ length b / 4 → part ≡ drop (4 * i) b →
      as_decoded n words' ≡ decoded_of 0 part words → as_decoded n words' ≡ decoded_of i b words
  unfolding decoded_of
  some_from n part words' h f e = rw (f, words_drop b i h) at e

pub ruleset froms = (none_from, some_from, rest)

-- ---- encoding
-- the first i words are put
pub length_bytes : (ws : List ℕ) → length (bytes_of ws) ≡ 4 * length ws
length_bytes [] = refl
length_bytes (w ∷ ws) = (let e = length_bytes ws in omega arith)

pub bytes_append : (us ws : List ℕ) → bytes_of (us ++ ws) ≡ bytes_of us ++ bytes_of ws
bytes_append [] ws = refl
bytes_append (u ∷ us) ws = ap (λ (s : List ℕ). bytes_in u ++ s) (bytes_append us ws)

abbrev pub begun : List ℕ → List ℕ → ℕ → List ℕ
begun ws bytes i = bytes_of (take i ws) ++ drop (4 * i) bytes

module _ (ws bytes : List ℕ) where
  pub none_put : length bytes / 4 < length ws → bytes ≡ put_words ws bytes
  unfolding put_words
  none_put h = rw (lt-leb (4 * length ws) (length bytes) (omega arith))

  module _ (i : ℕ) (now : List ℕ) (done : now ≡ begun ws bytes i) (room : 4 * length ws ≤ length bytes) where
    pub all_put : length ws ≤ i → i ≤ length ws → now ≡ put_words ws bytes
    unfolding put_words
    all_put h k =
        let e : i ≡ length ws = omega arith in
        rw (le-leb (4 * length ws) (length bytes) room) (rw (e, take_all (length ws) ws (omega arith)) at done)

    module _ (some : i < length ws) where
      prefix : length (bytes_of (take i ws)) ≡ 4 * i
      prefix = length_bytes (take i ws) ∙ ap (λ (k : ℕ). 4 * k) (length-take-le i ws (omega arith))

      pub long : 4 * i + 4 ≤ length now
      long = rw (done, length-append, prefix, length-drop) (omega arith)

      pub one_put : (w : ℕ) (next : List ℕ) → w ≡ get_or ws i 0 → next ≡ sets now (4 * i) (bytes_in w) → next ≡ begun ws bytes (i + 1)
      one_put w next f e =
          let P : List ℕ = bytes_of (take i ws) in
          let D : List ℕ = drop (4 * i) bytes in
          e ∙ sets-eq (bytes_in w) now (4 * i) long
          ∙ rw (done, take_at P D (4 * i) prefix, f)
          (let g : drop (4 * i + 4) (P ++ D) ≡ drop (4 * (i + 1)) bytes =
          ap (λ (k : ℕ). drop (k + 4) (P ++ D)) (sym prefix) ∙ drop-append-add P D 4 ∙ drop-drop 4 (4 * i) bytes
          ∙ ap (λ (k : ℕ). drop k bytes) (let a : 4 * i + 4 ≡ 4 * (i + 1) = omega arith in a) in
          rw (g, add-one, take-suc ws i 0 some, bytes_append))

pub ruleset encodes = (none_put, all_put, long, one_put)

-- from word number i on
no_place : (ws : List ℕ) → put_words ws [] ≡ []
unfolding put_words
no_place [] = refl
no_place (w ∷ ws) = rw (lt-leb (4 * suc (length ws)) 0 (omega arith))

module _ (ws bytes : List ℕ) (i : ℕ) where
  pub none_at : length bytes / 4 < i → bytes ≡ put_words_at i ws bytes
  none_at h =
      rw (take_all (4 * i) bytes (omega arith), drop_of_length-le bytes {i = 4 * i} (omega arith), no_place ws)
      (sym (append-nil bytes))

  pub some_at : (part : List ℕ) → part ≡ put_words ws (take (length bytes - 4 * i) (drop (4 * i) bytes)) →
      take (4 * i) bytes ++ (part ++ drop (length bytes - 4 * i) (drop (4 * i) bytes)) ≡ put_words_at i ws bytes
  some_at part e =
      let none = drop_of_length-le (drop (4 * i) bytes) {i = length bytes - 4 * i} (simp length-drop (omega arith)) in
      rw (none, append-nil part, e, rest bytes (4 * i))

pub ruleset ats = (none_at, some_at)

-- words put after words are put at once
pub put_twice : (i : ℕ) (us ws bytes : List ℕ) → 4 * (i + (length us + length ws)) ≤ length bytes →
    put_words_at (i + length us) ws (put_words_at i us bytes) ≡ put_words_at i (us ++ ws) bytes
unfolding put_words
put_twice i us ws bytes h =
    let D : List ℕ = drop (4 * i) bytes in
    let E : List ℕ = drop (4 * length us) D in
    let P : List ℕ = take (4 * i) bytes ++ bytes_of us in
    let n : ℕ = 4 * (i + length us) in
    let d : length D ≡ length bytes - 4 * i = length-drop (4 * i) bytes in
    let p : length P ≡ n = length-append (take (4 * i) bytes) (bytes_of us) ∙ (let a = length-take-le (4 * i) bytes (omega arith) in let b = length_bytes us in omega arith) in
    let e : put_words_at i us bytes ≡ P ++ E =
    rw (le-leb (4 * length us) (length D) (rw d (omega arith))) (sym (append_assoc (take (4 * i) bytes) (bytes_of us) E)) in
    let f : put_words ws E ≡ bytes_of ws ++ drop (4 * length ws) E =
    rw (le-leb (4 * length ws) (length E) (rw (length-drop (4 * length us) D, d) (omega arith))) in
    let g : drop (4 * length ws) E ≡ drop (4 * length (us ++ ws)) D =
    drop-drop (4 * length ws) (4 * length us) D ∙ rw (length-append us ws, (let a : 4 * length us + 4 * length ws ≡ 4 * (length us + length ws) = omega arith in a)) in
    rw (e, take_at P E n p, drop_at P E n p, f, g, le-leb (4 * length (us ++ ws)) (length D) (rw (length-append us ws, d) (omega arith)), bytes_append us ws)
    (simp append_assoc)
