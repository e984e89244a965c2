-- The loops over a log, of which `rest` is still to come and its first entry is entry n. Assumes nothing.
use Rattle.std.specs.Prelude.{Option, Some, None, Result, Ok, Err}
use Prim.Native.Nat.{ℕ, zero, suc, ◌*◌, ◌/◌, ◌+◌, ◌-◌, ◌%◌, ◌≤◌, ◌<◌}
use native.Mathlib.Omega.{arith}
use native.Mathlib.Nat.{mul-zero}
use mathlib.Core.Path.{◌≡◌, refl, sym, ap, ap₂, ◌∙◌}
use mathlib.Core.Bool.{Bool, true, false, cond}
use mathlib.Core.List.{List, [], ◌∷◌, ◌++◌}
use lib.Dec.{leb, lit<}
use lib.ListN.{length, get_or, take, drop, length-append, length-drop}
use lib.Seq.{take_all, drop-drop, get_or-take, length-take-le}
use Rattle.std.specs.Result.{result_ok}
use Rattle.std.specs.Simd.{first_chunks}
use borrow.Author.Tests.{le-leb, lt-leb, eq-eqb, ne_eqb, leb-true}
use Rattle.numerals.proofs.Spelling.{same_digits}
use Rattle.window.specs.Window.{Shown, laid, start_of, emit_of, window_of}
use Rattle.window.specs.Window as window
use Rattle.window.specs.declared.Cursor.{Cursor}
use Rattle.window.proofs.Laid.{emit_append, emit_none, windowed}
use Rattle.words.specs.Words.{word_of, words_in, word_at}
use Rattle.words.proofs.Turns as turns
use Rattle.page.specs.Page.{access_of, head_of, access_lines, entry_lines, text_of, entries_text, page_of, is_known, fault_from, fault_of, is_sound, left, laid_out, page_in, lines_of}
use Rattle.page.specs.Put.{size_in}
use Rattle.page.proofs.Same.{entries}
use Rattle.page.specs.declared.Access.{Access}
use Rattle.page.specs.declared.Fault.{Fault}
use Rattle.page.specs.declared.Access.TheVariants.{Read, Write}
use Rattle.page.specs.declared.Fault.TheVariants.{NotWhole, UnknownCode}

-- ---- a log in words
no_entry_holds : (n : ℕ) (ws : List ℕ) → length ws ≤ 1 → entries_text n ws ≡ []
unfolding lines_of text_of
no_entry_holds n [] h = refl
no_entry_holds n (w ∷ []) h = refl
no_entry_holds n (w ∷ v ∷ ws) h = absurd (omega arith)

first_entry : (n : ℕ) (ws : List ℕ) → 1 < length ws →
    entries_text n ws ≡ text_of (entry_lines n (get_or ws 0 0) (get_or ws 1 0)) ++ entries_text (n + 1) (drop 2 ws)
first_entry n [] h = absurd (omega arith)
first_entry n (w ∷ []) h = absurd (omega arith)
first_entry n (w ∷ v ∷ ws) h = entries n w v ws

-- ---- entries with numbers that end in the same six digits are the same
same_number : (m n : ℕ) (ws : List ℕ) → m % 1000000 ≡ n % 1000000 → entries_text m ws ≡ entries_text n ws
unfolding lines_of entry_lines head_of
same_number m n [] e = refl
same_number m n (w ∷ []) e = refl
same_number m n (code ∷ value ∷ ws) e =
    entries m code value ws
    ∙ ap₂ (λ (s t : List ℕ). s ++ t) (go (access_of code)) (same_number (m + 1) (n + 1) ws (omega arith))
    ∙ sym (entries n code value ws)
  where
    go : (a : Option Access) → text_of (access_lines m a value) ≡ text_of (access_lines n a value)
    go (Some (Read r)) = rw (same_digits 6 m n e)
    go (Some (Write r)) = rw (same_digits 6 m n e)
    go None = refl

pub from_six : (m n : ℕ) (ws : List ℕ) → m ≡ n % 1000000 → entries_text m ws ≡ entries_text n ws
from_six m n ws e = same_number m n ws (omega arith)

pub same_start : (m n : ℕ) (ws : List ℕ) (L : window.Laid) → m ≡ n % 1000000 → emit_of (entries_text m ws) L ≡ emit_of (entries_text n ws) L
same_start m n ws L e = ap (λ (t : List ℕ). emit_of t L) (from_six m n ws e)

pub same_size : (m n room : ℕ) (ws : List ℕ) → m ≡ n % 1000000 → length (entries_text m ws) + room ≡ length (entries_text n ws) + room
same_size m n room ws e = ap (λ (t : List ℕ). length t + room) (from_six m n ws e)

-- ---- the entries of a log, which are its parts of k words or bytes each, in turn
chunk_at : (k n i : ℕ) (s d : List ℕ) → i < n → get_or (first_chunks k n s) i d ≡ take k (drop (k * i) s)
chunk_at k zero i s d h = absurd (omega arith)
chunk_at k (suc n) zero s d h = rw mul-zero
chunk_at k (suc n) (suc i) s d h =
    let e : k + k * i ≡ k * suc i = omega arith in
    chunk_at k n i (drop k s) d (omega arith) ∙ ap (take k) (drop-drop (k * i) k s ∙ ap (λ (m : ℕ). drop m s) e)

drop_next : (k i : ℕ) (s : List ℕ) → drop k (drop (k * i) s) ≡ drop (k * (i + 1)) s
drop_next k i s = (let e : k * i + k ≡ k * (i + 1) = omega arith in drop-drop k (k * i) s ∙ ap (λ (m : ℕ). drop m s) e)

module _ (log all : List ℕ) (es : List (List ℕ)) (front : es ≡ first_chunks 2 (length log / 2) log) (n i : ℕ) (K L : window.Laid)
    (done : emit_of (entries_text n (drop (2 * i) log)) L ≡ emit_of all K) where
  pub entries_put : length log / 2 ≤ i → L ≡ emit_of all K
  entries_put h = rw (no_entry_holds n (drop (2 * i) log) (simp length-drop (omega arith)), emit_none) at done

  pub next_entry : i < length log / 2 → (d : List ℕ) (M : window.Laid) → M ≡ emit_of (text_of (entry_lines n (get_or (get_or es i d) 0 0) (get_or (get_or es i d) 1 0))) L →
      (m : ℕ) → m ≡ (n + 1) % 1000000 → emit_of (entries_text m (drop (2 * (i + 1)) log)) M ≡ emit_of all K
  next_entry h d M e m f =
      let r : List ℕ = drop (2 * i) log in
      let c : get_or es i d ≡ take 2 r = ap (λ (t : List (List ℕ)). get_or t i d) front ∙ chunk_at 2 (length log / 2) i log d h in
      let more : 1 < length r = simp length-drop (omega arith) in
      rw (from_six m (n + 1) _ f, e, c, get_or-take 2 r 0 0 (lit< tt), get_or-take 2 r 1 0 (lit< tt), ← drop_next 2 i log) (rw (first_entry n r more, emit_append) at done)

-- ---- a log in bytes, whose entries are its words, two by two
two_words : (b : List ℕ) → 8 ≤ length b → words_in b ≡ word_at b 0 ∷ word_at b 1 ∷ words_in (drop 8 b)
two_words b h = go (words_in b) (rw (turns.in_words b) (omega arith)) ∙ ap (λ (ws : List ℕ). word_at b 0 ∷ word_at b 1 ∷ ws) (sym (turns.words_drop b 2 (omega arith)))
  where
    go : (ws : List ℕ) → 1 < length ws → ws ≡ get_or ws 0 0 ∷ get_or ws 1 0 ∷ drop 2 ws
    go [] l = absurd (omega arith)
    go (w ∷ []) l = absurd (omega arith)
    go (w ∷ v ∷ ws) l = refl

word_kept : (b : List ℕ) (j : ℕ) → j < 2 → 8 ≤ length b → word_at (take 8 b) j ≡ word_at b j
word_kept b j h l =
    let at : (m : ℕ) → m < 8 → get_or (take 8 b) m 0 ≡ get_or b m 0 = λ m k. get_or-take 8 b m 0 k in
    let e : word_of (get_or b (4 * j) 0) (get_or b (4 * j + 1) 0) (get_or b (4 * j + 2) 0) (get_or b (4 * j + 3) 0) ≡
    word_of (get_or (take 8 b) (4 * j) 0) (get_or (take 8 b) (4 * j + 1) 0) (get_or (take 8 b) (4 * j + 2) 0) (get_or (take 8 b) (4 * j + 3) 0) =
    rw (at (4 * j) (omega arith), at (4 * j + 1) (omega arith), at (4 * j + 2) (omega arith), at (4 * j + 3) (omega arith)) in
    sym (turns.word_there (take 8 b) j (rw (length-take-le 8 b l) (omega arith)) _ e) ∙ turns.word_there b j (omega arith) _ refl

no_bytes : (n : ℕ) (b : List ℕ) → length b < 8 → entries_text n (words_in b) ≡ []
no_bytes n b h = no_entry_holds n (words_in b) (rw (turns.in_words b) (omega arith))

first_bytes : (n : ℕ) (b : List ℕ) → 8 ≤ length b →
    entries_text n (words_in b) ≡ text_of (entry_lines n (word_at b 0) (word_at b 1)) ++ entries_text (n + 1) (words_in (drop 8 b))
first_bytes n b h = ap (entries_text n) (two_words b h) ∙ entries n (word_at b 0) (word_at b 1) (words_in (drop 8 b))

-- entry number i, and the bytes from there on
module _ (log : List ℕ) (es : List (List ℕ)) (front : es ≡ first_chunks 8 (length log / 8) log) (i : ℕ) (d : List ℕ) (h : i < length log / 8) where
  abbrev from : List ℕ
  from = drop (8 * i) log

  long : 8 ≤ length from
  long = simp length-drop (omega arith)

  entry_is : get_or es i d ≡ take 8 from
  entry_is = ap (λ (t : List (List ℕ)). get_or t i d) front ∙ chunk_at 8 (length log / 8) i log d h

  first_word : word_at (get_or es i d) 0 ≡ word_at from 0
  first_word = rw entry_is (word_kept from 0 (lit< tt) long)

  second_word : word_at (get_or es i d) 1 ≡ word_at from 1
  second_word = rw entry_is (word_kept from 1 (lit< tt) long)

  its_bytes : (n : ℕ) → entries_text n (words_in from) ≡
      text_of (entry_lines n (word_at (get_or es i d) 0) (word_at (get_or es i d) 1)) ++ entries_text (n + 1) (words_in (drop (8 * (i + 1)) log))
  its_bytes n = rw (first_word, second_word, ← drop_next 8 i log) (first_bytes n from long)

no_more : (log : List ℕ) (i : ℕ) → length log / 8 ≤ i → length (drop (8 * i) log) < 8
no_more log i h = simp length-drop (omega arith)

module _ (log all : List ℕ) (es : List (List ℕ)) (front : es ≡ first_chunks 8 (length log / 8) log) (n i : ℕ) (K L : window.Laid)
    (done : emit_of (entries_text n (words_in (drop (8 * i) log))) L ≡ emit_of all K) where
  pub log_put : length log / 8 ≤ i → L ≡ emit_of all K
  log_put h = rw (no_bytes n (drop (8 * i) log) (no_more log i h), emit_none) at done

  pub next_put : i < length log / 8 → (d : List ℕ) (M : window.Laid) → M ≡ emit_of (text_of (entry_lines n (word_at (get_or es i d) 0) (word_at (get_or es i d) 1))) L →
      (m : ℕ) → m ≡ (n + 1) % 1000000 → emit_of (entries_text m (words_in (drop (8 * (i + 1)) log))) M ≡ emit_of all K
  next_put h d M e m f = rw (from_six m (n + 1) _ f, e) (rw (its_bytes log es front i d h n, emit_append) at done)

-- ---- its size, of which `left` is left of the room
module _ (log text : List ℕ) (es : List (List ℕ)) (front : es ≡ first_chunks 8 (length log / 8) log) (n i left room : ℕ)
    (sum : length (entries_text n (words_in (drop (8 * i) log))) + room ≡ length text + left) where
  pub measured_all : length log / 8 ≤ i → left ≤ room → Some (room - left) ≡ size_in room text
  measured_all h l =
      let e : length text ≡ room - left = omega (arith, ap length (no_bytes n (drop (8 * i) log) (no_more log i h))) in
      rw (le-leb (length text) room (omega arith), e)

  module _ (more : i < length log / 8) (d : List ℕ) (size code value : ℕ) (p : code ≡ word_at (get_or es i d) 0) (q : value ≡ word_at (get_or es i d) 1)
      (e : size ≡ length (text_of (entry_lines n code value))) where
    parts : length (entries_text n (words_in (drop (8 * i) log))) ≡ size + length (entries_text (n + 1) (words_in (drop (8 * (i + 1)) log)))
    parts = ap length (its_bytes log es front i d more n) ∙ rw (length-append, e, p, q)

    pub no_room : left < size → None ≡ size_in room text
    no_room l = rw (lt-leb (length text) room (omega (arith, parts)))

    pub next_size : size ≤ left → (m : ℕ) → m ≡ (n + 1) % 1000000 →
        length (entries_text m (words_in (drop (8 * (i + 1)) log))) + room ≡ length text + (left - size)
    next_size l m f = rw (from_six m (n + 1) _ f) (omega (arith, parts))

-- ---- what is wrong with it
pub not_whole : (log : List ℕ) → (length log % 8 ≡ 0 → ⊥) → Err NotWhole ≡ fault_of log
unfolding fault_of
not_whole log h = rw (ne_eqb (length log % 8) 0 h)

pub whole : (log : List ℕ) → length log % 8 ≡ 0 → fault_from 1 (words_in log) ≡ fault_of log
unfolding fault_of
whole log h = rw (eq-eqb (length log % 8) 0 h)

module _ (log : List ℕ) (es : List (List ℕ)) (front : es ≡ first_chunks 8 (length log / 8) log) (n i : ℕ) (F : Result (Unit {0}) Fault)
    (done : fault_from n (words_in (drop (8 * i) log)) ≡ F) where
  pub no_fault : length log / 8 ≤ i → length log % 8 ≡ 0 → Ok tt ≡ F
  unfolding fault_from
  no_fault h w = go (words_in (drop (8 * i) log)) (turns.in_words (drop (8 * i) log) ∙ (let z : length (drop (8 * i) log) / 4 ≡ 0 = simp length-drop (omega arith) in z)) done
    where
      go : (ws : List ℕ) → length ws ≡ 0 → fault_from n ws ≡ F → Ok tt ≡ F
      go [] z e = e
      go (w ∷ ws) z e = absurd (omega arith)

  module _ (more : i < length log / 8) (d : List ℕ) (r : Bool) (k : r ≡ is_known (access_of (word_at (get_or es i d) 0))) where
    first : fault_from n (words_in (drop (8 * i) log)) ≡ cond r (fault_from (n + 1) (words_in (drop (8 * (i + 1)) log))) (Err (UnknownCode n))
    unfolding fault_from
    first = rw (k, first_word log es front i d more, ← drop_next 8 i log) (ap (fault_from n) (two_words (drop (8 * i) log) (long log es front i d more)))

    pub bad_code : r ≡ false → Err (UnknownCode n) ≡ F
    bad_code h = sym (rw h at first) ∙ done

    pub next_code : r ≡ true → fault_from (n + 1) (words_in (drop (8 * (i + 1)) log)) ≡ F
    next_code h = sym (rw h at first) ∙ done

-- ---- the page laid out: F says whether the log is sound, S how long its page is
module _ (log out : List ℕ) (F : Result (Unit {0}) Fault) (e : F ≡ fault_of log) where
  abbrev text : List ℕ
  text = page_of (words_in log)

  pub unsound : result_ok F ≡ None → left None out ≡ page_in log out
  unfolding page_in
  unsound h = rw (← e, go F h)
    where
      go : (F : Result (Unit {0}) Fault) → result_ok F ≡ None → is_sound F ≡ false
      go (Ok u) h = cc
      go (Err f) h = refl

  module _ (u : Unit {0}) (h : result_ok F ≡ Some u) (S : Option ℕ) (size : S ≡ size_in (length out) text) where
    sound_page : page_in log out ≡ laid_out text out
    unfolding page_in
    sound_page = rw (← e, go F h)
      where
        go : (F : Result (Unit {0}) Fault) → result_ok F ≡ Some u → is_sound F ≡ true
        go (Ok v) h = refl
        go (Err f) h = cc

    pub too_long : S ≡ None → left None out ≡ page_in log out
    too_long o = go (leb (length text) (length out)) (sym size ∙ o) ∙ sym sound_page
      where
        go : (b : Bool) → cond b (Some (length text)) None ≡ None → left None out ≡ cond b (left (Some (length text)) (text ++ drop (length text) out)) (left None out)
        go true z = absurd (let z : ◌≡◌ {A = ℕ} 0 1 = cc in omega arith)
        go false z = refl

    pub laid_whole : (n : ℕ) → S ≡ Some n → (q p : Cursor) (after : List ℕ) → q ≡ start_of 0 → laid p after ≡ emit_of text (laid q out) → left (Some n) after ≡ page_in log out
    unfolding window_of
    laid_whole n s q p after c l = go (leb (length text) (length out)) refl (sym size ∙ s) ∙ sym sound_page
      where
        shown : length text ≤ length out → after ≡ text ++ drop (length text) out
        shown k =
            ap (λ (S : Shown). S.bytes) (windowed 0 text out (laid p after) (rw c at l))
            ∙ rw (take_all (length out) text k)

        go : (b : Bool) → leb (length text) (length out) ≡ b → cond b (Some (length text)) None ≡ Some n →
            left (Some n) after ≡ cond b (left (Some (length text)) (text ++ drop (length text) out)) (left None out)
        go true t z = (let m : length text ≡ n = cc in rw (← m, shown (leb-true (length text) (length out) t)))
        go false t z = absurd (let z : ◌≡◌ {A = ℕ} 0 1 = cc in omega arith)
