pub mod Demand
pub mod Restated
