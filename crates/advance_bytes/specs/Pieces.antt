-- Entries in a log of bytes. Assumes nothing.
use Rattle.std.specs.Prelude.{ℕ, ◌*◌, List}
use Rattle.words.specs.Words.{put_words_at}

-- their words put after w others, which are two words each
abbrev pub in_bytes : ℕ → List ℕ → List ℕ → List ℕ
in_bytes w ws log = put_words_at (2 * w) ws log
