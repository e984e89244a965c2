pub mod Codes
pub mod Window
