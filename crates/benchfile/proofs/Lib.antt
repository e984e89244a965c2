pub mod Parts
pub mod Lists
pub mod Rows
pub mod Bytes
pub mod Examples
