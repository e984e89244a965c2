pub mod Branch
pub mod Equal
