pub mod SavedLaws
pub mod Words
