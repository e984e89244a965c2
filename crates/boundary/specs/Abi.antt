-- What `huskerivory_abi` says, for a caller to compare with what it was built with. Assumes nothing.
use Rattle.std.specs.Prelude.{ℕ, ◌*◌, List, [], ◌∷◌, length}
use Rattle.calls.specs.Steps.{steps}
use Rattle.saved.specs.Saved.{saved_length}
use Rattle.boundary.specs.Demand.{reports}

pub record AbiLeft : Type 0 where
  pub version : ℕ
  pub sizes : List ℕ

abbrev pub as_abi_left : ℕ → List ℕ → AbiLeft
as_abi_left version sizes = record { version = version; sizes = sizes }

-- Bytes of a description, which is 16 words; of a saved call; of the four numbers of 64 bits that an advance leaves; of a log entry,
-- which is two words. The most operations, and bytes of a buffer. How many numbers there are, from 0 on: of reports, of steps.
abbrev pub abi_sizes : List ℕ
abi_sizes = 4 * 16 ∷ saved_length ∷ 8 * 4 ∷ 4 * 2 ∷ 64 ∷ 65535 ∷ length (reports 0 0) ∷ length steps ∷ []

abbrev pub abi_left : AbiLeft
abi_left = as_abi_left 3 abi_sizes
