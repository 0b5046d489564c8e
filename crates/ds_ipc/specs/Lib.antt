pub mod Ipcs
pub mod Saved
pub mod Sides
