pub mod Notes
pub mod Statuses
pub mod Inside
pub mod Loads
