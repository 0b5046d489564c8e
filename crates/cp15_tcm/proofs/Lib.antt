pub mod Covering
pub mod Kept
pub mod MainPast
pub mod SavedLaws
