-- What `huskerivory_page` leaves: the page's number and length, and the lent bytes. Assumes nothing.
use Rattle.std.specs.Prelude.{ℕ, List}
use Rattle.page.specs.Page.{Left, page_in, page_refusal, page_length}

pub record PageLeft : Type 0 where
  pub number : ℕ
  pub length : ℕ
  pub bytes : List ℕ

abbrev pub as_page_left : ℕ → ℕ → List ℕ → PageLeft
as_page_left number length bytes = record { number = number; length = length; bytes = bytes }

abbrev pub page_left : Left → PageLeft
page_left l = as_page_left (page_refusal l.page) (page_length l.page) l.buffer

abbrev pub page_left_in : List ℕ → List ℕ → PageLeft
page_left_in log bytes = page_left (page_in log bytes)
