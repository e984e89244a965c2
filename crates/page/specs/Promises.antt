-- What is promised of pages. Assumes nothing.
use Rattle.std.specs.Prelude.{ℕ, ◌*◌, ◌%◌, ◌^◌, ◌≤◌, ◌<◌, ◌≡◌, true, List, [], ◌∷◌, ◌++◌, length, drop, Some, None, Ok}
use Rattle.registers.specs.declared.Register.{Register}
use Rattle.words.specs.Words.{words_in, Below}
use Rattle.page.specs.Back.{field_columns, value_in}
use Rattle.page.specs.Page.{access_of, is_known, entry_lines, lines_of, text_of, page_of, fault_from, fault_of, left, page_in}
use Rattle.page.specs.declared.Access.TheVariants.{Read, Write}

-- every character is printable: from space (32) to `~` (126)
abbrev pub Printable : List ℕ → Type 0
Printable [] = Unit {0}
Printable (c ∷ s) = (32 ≤ c) × (c < 127) × Printable s

-- lines of 80 characters, and no line feed among them
abbrev pub Lines : List (List ℕ) → Type 0
Lines [] = Unit {0}
Lines (l ∷ ls) = (length l ≡ 80) × Printable l × Lines ls

-- an even number of words, and every code a register's
abbrev pub EachKnown : List ℕ → Type 0
EachKnown [] = Unit {0}
EachKnown (w ∷ []) = ⊥
EachKnown (code ∷ value ∷ log) = (is_known (access_of code) ≡ true) × EachKnown log

pub record PagePromises : Type 0 where
  -- each line has 80 columns
  pub columns : (n : ℕ) (log : List ℕ) → Lines (lines_of n log)
  -- an entry takes one line to five, of 81 bytes each
  pub few_lines : (n code value : ℕ) → length (text_of (entry_lines n code value)) ≤ 5 * 81
  -- a log is sound exactly if its codes are known and its entries whole
  pub sound : (n : ℕ) (log : List ℕ) → fault_from n log ≡ Ok tt → EachKnown log
  pub only_so : (n : ℕ) (log : List ℕ) → EachKnown log → fault_from n log ≡ Ok tt
  -- a page is laid out exactly if the entries are whole, each code is known and there is room for the page; then what stood after it stays,
  -- and if it is refused every byte does
  pub accepted : (log buffer : List ℕ) → length log % 8 ≡ 0 → EachKnown (words_in log) → length (page_of (words_in log)) ≤ length buffer →
      page_in log buffer ≡ left (Some (length (page_of (words_in log)))) (page_of (words_in log) ++ drop (length (page_of (words_in log))) buffer)
  pub only_then : (log buffer : List ℕ) (n : ℕ) → (page_in log buffer).page ≡ Some n →
      (length log % 8 ≡ 0) × EachKnown (words_in log) × (length (page_of (words_in log)) ≤ length buffer)
  pub unchanged : (log buffer : List ℕ) → (page_in log buffer).page ≡ None → (page_in log buffer).buffer ≡ buffer
  -- two logs with equal pages are the same log
  pub same_log : (log log' : List ℕ) → Below (2 ^ 32) log → Below (2 ^ 32) log' → EachKnown log → EachKnown log' → page_of log ≡ page_of log' → log ≡ log'
  -- so are two logs in bytes
  pub same_bytes : (log log' : List ℕ) → Below 256 log → Below 256 log' → fault_of log ≡ Ok tt → fault_of log' ≡ Ok tt →
      page_of (words_in log) ≡ page_of (words_in log') → log ≡ log'
  -- what stands from column 31 on gives the value back
  pub value_read : (n code value : ℕ) (r : Register) → value < 2 ^ 32 → access_of code ≡ Some (Read r) → value_in r (field_columns (entry_lines n code value)) ≡ value
  pub value_written : (n code value : ℕ) (r : Register) → value < 2 ^ 32 → access_of code ≡ Some (Write r) → value_in r (field_columns (entry_lines n code value)) ≡ value
