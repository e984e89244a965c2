pub mod Numbers
pub mod Words
pub mod Spelling
pub mod Examples
