pub mod CommandLaws
pub mod Inside
pub mod Words
pub mod Reader
pub mod Scripts
