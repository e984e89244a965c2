-- Document 01's run of its section "Bench", computed: the text of its file is the text that stands there, and with a service page in the place of
-- its access lines (R-2) the page of its log. Assumes nothing.
use Prim.Native.Nat.{ℕ, ◌/◌, ◌%◌}
use Prim.Native.String.{String}
use mathlib.Core.Path.{◌≡◌, refl}
use mathlib.Core.List.{List, [], ◌∷◌, ◌++◌, map}
use Rattle.benchfile.specs.Calls.{plain, has_argument, argument_wrong, list_misfit, transaction_wrong, head_wrong, call_wrong, head_description, operations_of, whole_buffer}
use Rattle.benchfile.specs.File.{row_wrong, rows_wrong, table_wrong, words_wrong, size_wrong}
use Rattle.words.specs.Words.{words_in}
use Rattle.calls.specs.Calls.{is_call, is_kind, manual}
use Rattle.calls.specs.Pieces.{pieces_for}
use Rattle.calls.specs.Refusals.{lookup_of, verdict_of, check_of, group_taken, accepts}
use Rattle.calls.specs.Run.{uncut_of, begun_of, advance_from, run_of}
use Rattle.calls.specs.Steps.{access_of, after_of, begin_of}
use Rattle.calls.specs.Words.{cr2_of, timingr_of, oar1_of, oar2_of, alter_of}
use Rattle.fields.specs.Field.{bits_at, with_bits, get_of, put_of}
use Rattle.lines.specs.Lines.{call_line, access_line, access_lines, log_text, bytes_text, buffer_line}
use Rattle.lines.specs.declared.Form.TheVariants.{Lines, Page}
use Rattle.numerals.specs.Numbers.{hex_digit_of, spelled_of, significant_of}
use Rattle.page.specs.Page.{access_of as coded, filled, head_of, lines_from, entry_lines, lines_of, text_of}
use Rattle.page.specs.Tokens.{flag_tokens, number_tokens, bit_tokens, tokens_below}
use Rattle.window.specs.Codes.{codes}
use Rattle.bench.specs.Text.{shows_buffer, calls_text, words_text, file_text}

abbrev bytes : List ℕ → List ℕ
bytes [] = []
bytes (w ∷ ws) = w % 256 ∷ w / 256 % 256 ∷ w / 65536 % 256 ∷ w / 16777216 ∷ bytes ws

abbrev file : List ℕ
file = bytes (1 ∷ 7 ∷ 0x50 ∷ 4 ∷ 5 ∷ 1 ∷ 2 ∷ 0x12 ∷ 0x34 ∷ 1 ∷ 0x020200A0 ∷ 3 ∷ 3 ∷ 0x21 ∷ [])

abbrev page : List String
page =
    "000001 write CR2     020220A0 AUTOEND NBYTES=2 START SADD=160"
    ∷ "000002 read  ISR     00000001 ADDCODE=0 TXE"
    ∷ "000003 read  CR2     020200A0 AUTOEND NBYTES=2 SADD=160"
    ∷ "000004 read  ISR     00000003 ADDCODE=0 TXIS TXE"
    ∷ "000005 write TXDR    00000012 TXDATA=18"
    ∷ "000006 read  ISR     00000003 ADDCODE=0 TXIS TXE"
    ∷ "000007 write TXDR    00000034 TXDATA=52"
    ∷ "000008 read  ISR     00000021 ADDCODE=0 STOPF TXE"
    ∷ "000009 write ICR     00000020 STOPCF"
    ∷ []

document_run : (file_text Lines file ≡
    codes "7 done 0 5 9\nw 04 020220A0\nr 18 00000001\nr 04 020200A0\nr 18 00000003\nw 28 00000012\nr 18 00000003\nw 28 00000034\nr 18 00000021\nw 1C 00000020\nb 1234\n")
    × (file_text Page file ≡ codes "7 done 0 5 9\n" ++ text_of (map (λ (s : String). filled 80 (codes s)) page) ++ codes "b 1234\n")
unfolding file_text words_text calls_text shows_buffer size_wrong words_wrong table_wrong rows_wrong row_wrong words_in plain has_argument argument_wrong list_misfit transaction_wrong head_wrong call_wrong head_description operations_of whole_buffer call_line access_line access_lines log_text bytes_text buffer_line hex_digit_of spelled_of significant_of bits_at with_bits get_of put_of is_call is_kind manual pieces_for lookup_of verdict_of check_of group_taken accepts uncut_of begun_of advance_from run_of access_of after_of begin_of cr2_of timingr_of oar1_of oar2_of alter_of lines_of entry_lines coded head_of lines_from text_of tokens_below bit_tokens flag_tokens number_tokens
document_run = (refl, refl)
