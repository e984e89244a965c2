pub mod Arms
pub mod Numbered
pub mod Round
pub mod Words
