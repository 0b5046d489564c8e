pub mod Strips
pub mod Spans
