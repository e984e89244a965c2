pub mod Timing
pub mod Answers
pub mod Demand
pub mod Restated
pub mod RestatedDemand
