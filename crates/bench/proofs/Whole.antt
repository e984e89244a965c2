-- Each run that the bench prints is the whole uncut run: no file has answers enough to fill its log. Assumes nothing.
use Prim.Native.Nat.{ℕ, zero, suc, ◌*◌, ◌≤◌}
use native.Mathlib.Omega.{arith}
use mathlib.Core.Path.{◌≡◌, refl, ◌∙◌, subst}
use mathlib.Core.Bool.{Bool, true, false, ◌||◌}
use mathlib.Core.List.{List}
use lib.Dec.{T}
use lib.ListN.{length, get_or, take, drop, length-take, length-drop}
use lib.Seq.{take_all}
use borrow.Author.Tests.{ltb-false}
use Rattle.benchfile.specs.Calls.{plain, head_description, operations_of, lent_buffer}
use Rattle.benchfile.specs.File.{body_size, size_wrong}
use Rattle.words.proofs.Turns.{in_words, decoded_words}
use Rattle.words.specs.Words.{words_in, as_decoded, decoded_of}
use Rattle.calls.proofs.Ends.{whole_run}
use Rattle.drive.specs.Drive.{places}
use Rattle.bench.specs.Text.{CallsWhole, EveryWhole}

neither : (a b : Bool) → (a || b) ≡ false → a ≡ false
neither true b h = absurd (subst T h tt)
neither false b h = refl

few_words : (file : List ℕ) → size_wrong (length file) ≡ false → length (words_in file) ≤ 16384
unfolding size_wrong
few_words file h =
    let l : length file ≤ 65536 = ltb-false 65536 (length file) (neither _ _ h) in
    rw (in_words file) (omega arith)

-- so a room of 16,384 words takes all
pub all_words : (file words : List ℕ) (n : ℕ) (words' : List ℕ) → size_wrong (length file) ≡ false → length words ≡ 16384 →
    as_decoded n words' ≡ decoded_of 0 file words → take n words' ≡ words_in file
all_words file words n words' h z e =
    decoded_words 0 file words n words' e ∙ take_all (length words) (words_in file) (rw z (few_words file h))

calls_whole : (n : ℕ) (rows bodies : List ℕ) → length bodies ≤ 16384 → CallsWhole n rows bodies
calls_whole zero rows bodies h = tt
calls_whole (suc n) rows bodies h =
    let head : List ℕ = take (get_or rows 2 0) bodies in
    let l : List ℕ = take (get_or rows 3 0) (drop (get_or rows 2 0) bodies) in
    let few : length l ≤ 16384 = simp (length-take, length-drop) (omega arith) in (
      whole_run (head_description (get_or rows 0 0) (get_or rows 1 0) head) (operations_of (get_or rows 0 0) head) places
          (lent_buffer (plain (get_or rows 0 0)) (get_or rows 1 0) head) l (omega arith),
      calls_whole n (drop 4 rows) (drop (body_size rows) bodies) (simp length-drop (omega arith)),
    )

pub every_whole : (file : List ℕ) → EveryWhole file
every_whole file h =
    calls_whole (get_or (words_in file) 0 0) (drop 1 (words_in file)) (drop (4 * get_or (words_in file) 0 0) (drop 1 (words_in file)))
    (simp length-drop (omega (arith, few_words file (neither _ _ h))))
