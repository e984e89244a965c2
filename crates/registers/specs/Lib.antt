pub mod Places
pub mod Map
pub mod Fields
pub mod Addresses
