pub mod Regions
pub mod Rows
