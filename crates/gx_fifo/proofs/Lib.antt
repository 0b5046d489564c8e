mod Words
pub mod Counts
pub mod Heads
pub mod Unpacks
pub mod Growing
pub mod Dues
pub mod Laws
pub mod Codes
pub mod Parameters
pub mod Walks
pub mod SavedLaws
