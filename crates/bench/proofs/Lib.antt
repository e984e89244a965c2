pub mod Texts
pub mod Whole
pub mod Cases
pub mod Restated
