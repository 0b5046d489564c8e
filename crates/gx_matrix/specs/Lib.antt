pub mod Algebra
pub mod CommandTable
pub mod Commands
pub mod Saved
