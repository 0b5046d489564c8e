pub mod Dividers
pub mod Division
pub mod Roots
pub mod Saved
