mod Words
pub mod Bounds
pub mod Backs
pub mod Parameters
pub mod Facing
pub mod Growing
pub mod Overflows
pub mod Halves
pub mod Sides
pub mod Recent
pub mod Lit
pub mod SavedLaws
pub mod SavedParts
pub mod Walks
