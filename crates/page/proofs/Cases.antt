-- Worked pages, which antt computes: the six entries of issue 19, document 01's run, and what is no entry. Assumes nothing.
use Rattle.std.specs.Prelude.{None, Err}
use Prim.Native.Nat.{ℕ}
use Prim.Native.String.{String}
use mathlib.Core.Path.{◌≡◌, refl}
use mathlib.Core.List.{List, [], ◌∷◌, map}
use lib.ListN.{length, replicate}
use Rattle.fields.specs.Field.{bits_at, get_of}
use Rattle.numerals.specs.Numbers.{hex_digit_of, spelled_of, significant_of}
use Rattle.window.specs.Codes.{codes}
use Rattle.page.specs.Page.{access_of, filled, head_of, lines_from, entry_lines, lines_of, text_of, page_of, fault_from}
use Rattle.page.specs.Tokens.{flag_tokens, number_tokens, bit_tokens, tokens_below}
use Rattle.page.specs.declared.Fault.TheVariants.{NotWhole, UnknownCode}

abbrev lines : List String → List (List ℕ)
lines = map (λ (s : String). filled 80 (codes s))

-- tokens of every kind, and one that ends in column 80
abbrev words : List ℕ
words = 0 ∷ 0xFFFFFFFF ∷ 0x110 ∷ 0x0F000000 ∷ 4 ∷ 0x06FF33FF ∷ 4 ∷ 0x06FF17FF ∷ 0x11C ∷ 0 ∷ 0x24 ∷ 0x100 ∷ []

abbrev shown : List String
shown =
    "000001 read  CR1     FFFFFFFF STOPFACLR ADDRACLR bit29 bit28 bit27 bit26 bit25"
    ∷ "                              FMP PECEN ALERTEN SMBDEN SMBHEN GCEN WUPEN"
    ∷ "                              NOSTRETCH SBC RXDMAEN TXDMAEN bit13 ANFOFF DNF=15"
    ∷ "                              ERRIE TCIE STOPIE NACKIE ADDRIE RXIE TXIE PE"
    ∷ "000002 write TIMINGR 0F000000 PRESC=0 bit27 bit26 bit25 bit24 SCLDEL=0 SDADEL=0"
    ∷ "                              SCLH=0 SCLL=0"
    ∷ "000003 read  CR2     06FF33FF PECBYTE AUTOEND NBYTES=255 START HEAD10R SADD=1023"
    ∷ "000004 read  CR2     06FF17FF PECBYTE AUTOEND NBYTES=255 HEAD10R RD_WRN"
    ∷ "                              SADD=1023"
    ∷ "000005 write ICR     00000000"
    ∷ "000006 read  RXDR    00000100 bit8 RXDATA=0"
    ∷ []

-- document 01's run, of nine accesses
abbrev run : List ℕ
run = 0x104 ∷ 0x020220A0 ∷ 0x18 ∷ 1 ∷ 4 ∷ 0x020200A0 ∷ 0x18 ∷ 3 ∷ 0x128 ∷ 0x12 ∷ 0x18 ∷ 3 ∷ 0x128 ∷ 0x34 ∷ 0x18 ∷ 0x21 ∷ 0x11C ∷ 0x20 ∷ []

-- of an entry's number the last six digits stand there
pages : (lines_of 1 words ≡ lines shown)
    × (length (page_of words) ≡ 891)
    × (length (page_of run) ≡ 729)
    × (lines_of 1000000 (0x11C ∷ 0 ∷ []) ≡ lines ("000000 write ICR     00000000" ∷ []))
unfolding lines_of entry_lines access_of head_of lines_from text_of tokens_below bit_tokens flag_tokens number_tokens get_of bits_at spelled_of hex_digit_of significant_of
pages = (refl, refl, refl, refl)

-- no register's offset, a write's twice over, a higher bit set; a log that ends within an entry; the first fault counts
no_entries : (map access_of (0x14 ∷ 0x20 ∷ 0x218 ∷ 0x80000018 ∷ []) ≡ replicate 4 None)
    × (map (fault_from 1) ((4 ∷ []) ∷ (4 ∷ 0 ∷ 0x18 ∷ []) ∷ []) ≡ replicate 2 (Err NotWhole))
    × (fault_from 1 (4 ∷ 0 ∷ 0x14 ∷ 0 ∷ 0x18 ∷ []) ≡ Err (UnknownCode 2))
unfolding fault_from access_of
no_entries = (refl, refl, refl)
