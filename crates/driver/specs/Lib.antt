pub mod Next
pub mod Turn
pub mod Views
pub mod Demand
