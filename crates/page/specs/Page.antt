-- The service page of a log (document 02, R-2): each entry on lines of 80 columns. Assumes nothing.
use Rattle.std.specs.Prelude.{ℕ, ◌+◌, ◌-◌, ◌%◌, Bool, true, false, cond, List, [], ◌∷◌, ◌++◌, eqb, leb, length, drop, replicate, Option, Some, None, Result, Ok, Err}
use Rattle.numerals.specs.Numbers.{spelled_of, hex_of}
use Rattle.registers.specs.Fields.{registers, register_name}
use Rattle.registers.specs.Map.{offset_of}
use Rattle.registers.specs.declared.Register.{Register}
use Rattle.window.specs.Codes.{codes}
use Rattle.words.specs.Words.{words_in}
use Rattle.page.specs.Tokens.{Token, tokens_of}
use Rattle.page.specs.declared.Access.{Access}
use Rattle.page.specs.declared.Fault.{Fault}
use Rattle.page.specs.declared.Access.TheVariants.{Read, Write}
use Rattle.page.specs.declared.Fault.TheVariants.{NotWhole, UnknownCode}

-- ---- What an entry's code says: a register's offset, plus 0x100 for a write, and nothing else.
abbrev pub access_in : ℕ → List Register → Option Access
access_in code [] = None
access_in code (r ∷ rs) = cond (eqb code (offset_of r)) (Some (Read r)) (cond (eqb code (offset_of r + 0x100)) (Some (Write r)) (access_in code rs))

unfoldable pub access_of : ℕ → Option Access
access_of code = access_in code registers

-- ---- Columns
abbrev pub spaces : ℕ → List ℕ
spaces n = replicate n 32

-- a text with spaces after it, up to n columns
abbrev pub filled : ℕ → List ℕ → List ℕ
filled n t = t ++ spaces (n - length t)

-- the columns 1 to 29 of entry n: its last six digits, what was done from column 8 on, the register from column 14 on, the value from column 22 on
unfoldable pub head_of : ℕ → List ℕ → Register → ℕ → List ℕ
head_of n done r value =
    spelled_of 10 6 n ++ spaces 1 ++ filled 5 done ++ spaces 1 ++ filled 7 (codes (register_name r)) ++ spaces 1 ++ hex_of 8 value

-- ---- Lines
-- Tokens follow what stands on a line, each after a space. One that would pass column 80 is the first of the next line, from column 31 on.
unfoldable pub lines_from : List ℕ → List Token → List (List ℕ)
lines_from line [] = filled 80 line ∷ []
lines_from line (t ∷ ts) =
    cond (leb (length line + (1 + length t)) 80)
    (lines_from (line ++ spaces 1 ++ t) ts)
    (filled 80 line ∷ lines_from (spaces 30 ++ t) ts)

abbrev pub register_lines : ℕ → List ℕ → Register → ℕ → List (List ℕ)
register_lines n done r value = lines_from (head_of n done r value) (tokens_of r value)

abbrev pub access_lines : ℕ → Option Access → ℕ → List (List ℕ)
access_lines n (Some (Read r)) value = register_lines n (codes "read") r value
access_lines n (Some (Write r)) value = register_lines n (codes "write") r value
access_lines n None value = []

unfoldable pub entry_lines : ℕ → ℕ → ℕ → List (List ℕ)
entry_lines n code value = access_lines n (access_of code) value

-- the entries of a log's words, of which the first is entry n
unfoldable pub lines_of : ℕ → List ℕ → List (List ℕ)
lines_of n [] = []
lines_of n (w ∷ []) = []
lines_of n (code ∷ value ∷ log) = entry_lines n code value ++ lines_of (n + 1) log

-- ---- The page: each line and a line feed
unfoldable pub text_of : List (List ℕ) → List ℕ
text_of [] = []
text_of (l ∷ ls) = (l ++ codes "\n") ++ text_of ls

abbrev pub entries_text : ℕ → List ℕ → List ℕ
entries_text n log = text_of (lines_of n log)

abbrev pub page_of : List ℕ → List ℕ
page_of log = entries_text 1 log

-- ---- What is wrong with a log, of which the first entry is entry n: a code that is no register's, or a word that is no entry
abbrev pub is_known : Option Access → Bool
is_known (Some (Read r)) = true
is_known (Some (Write r)) = true
is_known None = false

unfoldable pub fault_from : ℕ → List ℕ → Result (Unit {0}) Fault
fault_from n [] = Ok tt
fault_from n (w ∷ []) = Err NotWhole
fault_from n (code ∷ value ∷ log) = cond (is_known (access_of code)) (fault_from (n + 1) log) (Err (UnknownCode n))

-- and with a log in bytes, which make no whole entries or have such words
unfoldable pub fault_of : List ℕ → Result (Unit {0}) Fault
fault_of bytes = cond (eqb (length bytes % 8) 0) (fault_from 1 (words_in bytes)) (Err NotWhole)

abbrev pub is_sound : Result (Unit {0}) Fault → Bool
is_sound (Ok u) = true
is_sound (Err f) = false

-- ---- The page laid out in a lent buffer, or refusal 15, which leaves the buffer as it is
pub record Left : Type 0 where
  pub page : Option ℕ
  pub buffer : List ℕ

abbrev pub left : Option ℕ → List ℕ → Left
left page buffer = record { page = page; buffer = buffer }

abbrev pub laid_out : List ℕ → List ℕ → Left
laid_out text buffer = cond (leb (length text) (length buffer)) (left (Some (length text)) (text ++ drop (length text) buffer)) (left None buffer)

unfoldable pub page_in : List ℕ → List ℕ → Left
page_in log buffer = cond (is_sound (fault_of log)) (laid_out (page_of (words_in log)) buffer) (left None buffer)

abbrev pub page_refusal : Option ℕ → ℕ
page_refusal (Some n) = 0
page_refusal None = 15

abbrev pub page_length : Option ℕ → ℕ
page_length (Some n) = n
page_length None = 0
