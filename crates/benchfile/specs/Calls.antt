-- A call of a bench file: its number, its argument and its head words, and what they describe (document 01, "Bench").
-- Assumes nothing.
use Rattle.std.specs.Prelude.{ℕ, ◌+◌, ◌-◌, ◌%◌, Bool, cond, not, ◌&&◌, ◌||◌, List, [], ◌∷◌, ◌++◌, map, eqb, leb, ltb, length, get_or, take, drop, replicate, Option, Some, None}
use Rattle.calls.specs.Pieces.{piece_of}
use Rattle.calls.specs.Refusals.{any_of}
use Rattle.calls.specs.declared.Description.{Description}
use Rattle.address_words.specs.Words.{mode_of, config_in}
use Rattle.calls.specs.declared.TargetConfig.{TargetConfig}

-- 24 to 29 are read like 8 to 13
unfoldable pub plain : ℕ → ℕ
plain n = cond (leb 24 n && leb n 29) (n - 16) n

-- ---- The argument: address and mode of 7, listen kind of 4 and 5, buffer length of 9 and 11; else 0.
unfoldable pub has_argument : ℕ → Bool
has_argument n = eqb n 4 || (eqb n 5 || (eqb n 9 || eqb n 11))

unfoldable pub argument_wrong : ℕ → ℕ → Bool
argument_wrong n a = cond (eqb n 7) (ltb 131071 a) (not (has_argument n) && not (eqb a 0))

-- ---- The head.
-- a word that is no byte
abbrev pub any_wide : List ℕ → Bool
any_wide = any_of (ltb 255)

-- the bytes that words hold
abbrev pub low_bytes : List ℕ → List ℕ
low_bytes = map (λ (w : ℕ). w % 256)

-- the bytes that an operation writes, and those that a list of them writes
abbrev pub write_size : ℕ → ℕ
write_size o = cond (piece_of o).reads 0 (piece_of o).size

abbrev pub write_bytes : List ℕ → ℕ
write_bytes [] = 0
write_bytes (o ∷ ops) = write_size o + write_bytes ops

-- the words of 7's head after the count k: k operations, then a word per write byte
unfoldable pub list_misfit : ℕ → List ℕ → Bool
list_misfit k ws = ltb (length ws) k || (not (eqb (length (drop k ws)) (write_bytes (take k ws))) || any_wide (drop k ws))

unfoldable pub transaction_wrong : List ℕ → Bool
transaction_wrong head = eqb (length head) 0 || list_misfit (get_or head 0 0) (drop 1 head)

-- so many words, the mode of a configuration at place i not above 1
unfoldable pub config_wrong : ℕ → ℕ → List ℕ → Bool
config_wrong size i head = not (eqb (length head) size) || ltb 1 (get_or head i 0)

-- 1 has a TIMINGR word, then none or four configuration words
unfoldable pub head_wrong : ℕ → List ℕ → Bool
head_wrong n head =
    cond (eqb n 7) (transaction_wrong head)
    (cond (eqb n 10 || eqb n 12) (any_wide head)
    (cond (eqb n 1) (not (eqb (length head) 1) && config_wrong 5 2 head)
    (cond (eqb n 2) (config_wrong 5 2 head)
    (cond (eqb n 3) (config_wrong 4 1 head)
    (not (eqb (length head) 0))))))

unfoldable pub call_wrong : ℕ → ℕ → List ℕ → Bool
call_wrong n a head = argument_wrong (plain n) a || head_wrong (plain n) head

-- ---- The description. A call looks only at the words that belong to it. Own address, mode, secondary address and mask stand
-- after the TIMINGR word, which 3 does not have; where no four words do, there is no configuration.
abbrev pub configuration_in : List ℕ → Option TargetConfig
configuration_in ws =
    cond (eqb (length ws) 4) (Some (config_in (get_or ws 0 0) (get_or ws 1 0) (get_or ws 2 0) (get_or ws 3 0))) None

abbrev pub config_from : ℕ → ℕ
config_from n = cond (eqb n 3) 0 1

unfoldable pub head_description : ℕ → ℕ → List ℕ → Description
head_description n a head =
    record {
      call = n;
      address = a % 65536;
      listen = a;
      timing = record { 0 = get_or head 0 0 };
      config = configuration_in (drop (config_from n) head);
      mode = mode_of (leb 65536 a);
    }

-- ---- The operation list, for 7 only, and the buffer.
abbrev pub list_in : List ℕ → List ℕ
list_in head = take (get_or head 0 0) (drop 1 head)

abbrev pub after_list : List ℕ → List ℕ
after_list head = drop (get_or head 0 0) (drop 1 head)

unfoldable pub operations_of : ℕ → List ℕ → List ℕ
operations_of n head = cond (eqb n 7) (list_in head) []

-- the operations' bytes in order, a write's from the list, a read's zeros
abbrev pub operation_bytes : ℕ → List ℕ → List ℕ
operation_bytes o bytes = cond (piece_of o).reads (replicate (piece_of o).size 0) (take (piece_of o).size bytes)

abbrev pub operations_bytes : List ℕ → List ℕ → List ℕ
operations_bytes [] bytes = []
operations_bytes (o ∷ ops) bytes = operation_bytes o bytes ++ operations_bytes ops (drop (write_size o) bytes)

-- before it is cut
unfoldable pub whole_buffer : ℕ → ℕ → List ℕ → List ℕ
whole_buffer n a head =
    cond (eqb n 7) (operations_bytes (list_in head) (low_bytes (after_list head)))
    (cond (eqb n 9 || eqb n 11) (replicate a 0)
    (cond (eqb n 10 || eqb n 12) (low_bytes head) []))

-- the buffer that is lent to a call that is read like n
abbrev pub lent_buffer : ℕ → ℕ → List ℕ → List ℕ
lent_buffer n a head = take 65536 (whole_buffer n a head)
