-- What the fields of a word take: TXDATA a whole byte, and SADD ten bits, so that the shift may drop high ones. Assumes nothing.
use Prim.Native.Nat.{ℕ, ◌*◌, ◌%◌, ◌^◌, ◌<◌}
use mathlib.Core.Path.{◌≡◌, ◌∙◌}
use lib.Pow.{mod-mod-pow}
use native.Mathlib.Omega.{arith}
use Rattle.fields.specs.Field.{put_of}
use Rattle.fields.proofs.Laws.{put_low, put_on}
use Rattle.registers.specs.Places.{CR2_SADD, TXDR_TXDATA}

pub byte_is_whole : (byte : ℕ) → byte < 256 → put_of 0 TXDR_TXDATA byte ≡ byte
byte_is_whole byte h = put_on 0 TXDR_TXDATA byte tt (omega arith) h ∙ omega arith

pub address_is_shifted : (w address : ℕ) → put_of w CR2_SADD (address * 2 % 2 ^ 32) ≡ put_of w CR2_SADD (address * 2)
address_is_shifted w address = put_low w CR2_SADD _ _ (mod-mod-pow (address * 2) 22 10)
