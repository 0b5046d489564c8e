-- How a script is read, from a line's front on and line by line. No public clause speaks of it.
pub mod Lines
pub mod Names
pub mod Scripts
pub mod Ticks
