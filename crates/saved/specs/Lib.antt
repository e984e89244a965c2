pub mod Saved
pub mod Range
