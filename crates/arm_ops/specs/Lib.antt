pub mod Inside
pub mod Meanings
pub mod Operations
