mod Words
pub mod Made
pub mod Plans
pub mod SavedLaws
pub mod Kept
pub mod Fours
pub mod Early
pub mod Turns
pub mod Wholes
mod ByCases
