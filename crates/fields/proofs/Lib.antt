pub mod Tests
pub mod Arithmetic
pub mod Laws
pub mod Apart
