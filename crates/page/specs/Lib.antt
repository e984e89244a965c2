pub mod Tokens
pub mod Page
pub mod Back
pub mod Promises
pub mod Put
