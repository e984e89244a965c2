-- Worked examples of the definitions, which antt computes. Assumes nothing.
use Prim.Native.Nat.{ℕ}
use mathlib.Core.Path.{◌≡◌, refl}
use mathlib.Core.Bool.{true, false}
use mathlib.Core.List.{List, [], ◌∷◌, ◌++◌, map}
use lib.ListN.{replicate}
use Rattle.fields.specs.Field.{get_of, bits_at}
use Rattle.benchfile.specs.Calls.{plain, has_argument, argument_wrong, list_misfit, transaction_wrong, config_wrong, head_wrong, call_wrong, operations_of, whole_buffer, lent_buffer}
use Rattle.benchfile.specs.File.{row_wrong, rows_wrong, table_wrong, words_wrong}
use Rattle.words.specs.Words.{words_in}

-- document 01's run
run : List ℕ
run = 1 ∷ 7 ∷ 0x50 ∷ 4 ∷ 5 ∷ 1 ∷ 2 ∷ 0x12 ∷ 0x34 ∷ 1 ∷ 0x020200A0 ∷ 3 ∷ 3 ∷ 0x21 ∷ []

-- two written bytes, three that are read, and one more that is written
lists : List ℕ
lists = 3 ∷ 2 ∷ 0x10003 ∷ 1 ∷ 0x12 ∷ 0x34 ∷ 0x56 ∷ []

buffer : lent_buffer 7 0x50 lists ≡ 0x12 ∷ 0x34 ∷ 0 ∷ 0 ∷ 0 ∷ 0x56 ∷ []
unfolding lists whole_buffer get_of bits_at
buffer = refl

operations : operations_of 7 lists ≡ 2 ∷ 0x10003 ∷ 1 ∷ []
unfolding lists operations_of
operations = refl

words : words_in (1 ∷ 2 ∷ 3 ∷ 4 ∷ 0xA0 ∷ 0 ∷ 2 ∷ 2 ∷ []) ≡ 0x04030201 ∷ 0x020200A0 ∷ []
unfolding words_in
words = refl

-- no call; the run; 1 without a configuration; 25 with five bytes; an unlisted call
right : List (List ℕ)
right = (0 ∷ []) ∷ run ∷ (1 ∷ 1 ∷ 0 ∷ 1 ∷ 0 ∷ 7 ∷ []) ∷ (1 ∷ 25 ∷ 5 ∷ 0 ∷ 0 ∷ []) ∷ (1 ∷ 30 ∷ 0 ∷ 0 ∷ 0 ∷ []) ∷ []

-- no count; a table cut short; a word to spare; an argument of 8; a byte above 255; mode 2; a head of an unlisted call
wrong : List (List ℕ)
wrong =
    [] ∷ (1 ∷ 6 ∷ 0 ∷ 0 ∷ []) ∷ (0 ∷ 0 ∷ []) ∷ (1 ∷ 8 ∷ 1 ∷ 0 ∷ 0 ∷ []) ∷ (1 ∷ 10 ∷ 0 ∷ 1 ∷ 0 ∷ 256 ∷ [])
    ∷ (1 ∷ 3 ∷ 0 ∷ 4 ∷ 0 ∷ 1 ∷ 2 ∷ 0 ∷ 0 ∷ []) ∷ (1 ∷ 30 ∷ 0 ∷ 1 ∷ 0 ∷ 0 ∷ []) ∷ []

told_apart : map words_wrong (right ++ wrong) ≡ replicate 5 false ++ replicate 7 true
unfolding run right wrong words_wrong table_wrong rows_wrong row_wrong call_wrong plain argument_wrong has_argument head_wrong transaction_wrong list_misfit config_wrong get_of bits_at
told_apart = refl
