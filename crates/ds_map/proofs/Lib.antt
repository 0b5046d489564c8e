mod Words
pub mod NineShares
pub mod Reached
pub mod Later
pub mod Guards
pub mod TakenBack
pub mod Passed
pub mod SevenShares
pub mod ObservedPorts
pub mod GxApart
pub mod Waiting
