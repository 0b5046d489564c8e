pub mod Clips
pub mod Sums
pub mod Poses
pub mod SavedLaws
