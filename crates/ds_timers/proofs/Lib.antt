pub mod Four
pub mod Changed
pub mod Overflowed
pub mod SavedLaws
