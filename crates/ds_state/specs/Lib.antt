pub mod Formats
pub mod FormatLaws
pub mod Loops
pub mod Reading
