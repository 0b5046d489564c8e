-- How a text is read line by line. No public clause speaks of it.
pub mod Lines
