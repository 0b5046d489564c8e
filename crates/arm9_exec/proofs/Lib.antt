mod Words
pub mod Kept
pub mod Costs
pub mod Statuses
