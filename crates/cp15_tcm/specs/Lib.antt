pub mod Registers
pub mod Saved
pub mod TightlyCoupled
pub mod Windows
