pub mod Bands
pub mod Table
pub mod Promises
pub mod Bounds
