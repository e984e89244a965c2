pub mod File
pub mod Calls
