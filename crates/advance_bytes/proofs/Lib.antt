pub mod Enough
pub mod Pieces
