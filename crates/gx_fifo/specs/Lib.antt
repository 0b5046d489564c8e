pub mod Entries
pub mod PackedWords
pub mod Unpacking
pub mod GxPorts
pub mod GxStates
pub mod Saved
