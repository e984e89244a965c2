pub mod Refusals
pub mod Timingr
pub mod Bands
