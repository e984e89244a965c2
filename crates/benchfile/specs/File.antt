-- A bench file: a table of contents, then the bodies of its calls, head before answers (document 01, "Bench"). Assumes nothing.
use Rattle.std.specs.Prelude.{ℕ, zero, suc, ◌+◌, ◌*◌, ◌%◌, Bool, not, ◌||◌, List, eqb, ltb, length, get_or, take, drop}
use Rattle.words.specs.Words.{words_in}
use Rattle.benchfile.specs.Calls.{call_wrong}

-- A row of the table: a call's number, its argument, how many head words it has and how many answer words. The bodies have
-- to be as long as the rows say.
abbrev pub body_size : List ℕ → ℕ
body_size row = get_or row 2 0 + get_or row 3 0

unfoldable pub row_wrong : List ℕ → List ℕ → Bool
row_wrong row bodies =
    ltb (length bodies) (body_size row) || call_wrong (get_or row 0 0) (get_or row 1 0) (take (get_or row 2 0) bodies)

unfoldable pub rows_wrong : ℕ → List ℕ → List ℕ → Bool
rows_wrong zero rows bodies = not (eqb (length bodies) 0)
rows_wrong (suc n) rows bodies = row_wrong rows bodies || rows_wrong n (drop 4 rows) (drop (body_size rows) bodies)

unfoldable pub table_wrong : ℕ → List ℕ → Bool
table_wrong n words = ltb 64 n || (ltb (length words) (4 * n) || rows_wrong n words (drop (4 * n) words))

-- a file without a count is too short
unfoldable pub words_wrong : List ℕ → Bool
words_wrong words = eqb (length words) 0 || table_wrong (get_or words 0 0) (drop 1 words)

unfoldable pub size_wrong : ℕ → Bool
size_wrong bytes = ltb 65536 bytes || not (eqb (bytes % 4) 0)

-- Refusal 14, every case: over 65,536 bytes, a last word that is not whole, or what is wrong with the words.
abbrev pub file_wrong : List ℕ → Bool
file_wrong file = size_wrong (length file) || words_wrong (words_in file)
