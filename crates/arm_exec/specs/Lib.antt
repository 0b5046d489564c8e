pub mod Stopped
pub mod Costs
pub mod Undefined
