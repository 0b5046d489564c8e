mod Words
pub mod Executing
pub mod Kept
pub mod Lists
pub mod Costs
pub mod StatusBits
pub mod StatusKinds
pub mod StatusMeanings
pub mod StatusMoves
pub mod StatusSteps
pub mod UndefinedLaws
