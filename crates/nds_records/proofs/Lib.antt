mod LineLists
pub mod Joined
pub mod Lengths
