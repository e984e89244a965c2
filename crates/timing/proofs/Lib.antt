pub mod Round
pub mod Cases
pub mod Restated
