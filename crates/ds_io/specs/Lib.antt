pub mod Faults
pub mod Sinks
pub mod Shelves
pub mod Entries
pub mod Kept
pub mod Numbered
pub mod Fakes
pub mod Puts
