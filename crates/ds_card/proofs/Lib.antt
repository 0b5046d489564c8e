mod Words
pub mod Begins
pub mod InOrder
pub mod KeptBits
pub mod SavedLaws
pub mod Schedules
