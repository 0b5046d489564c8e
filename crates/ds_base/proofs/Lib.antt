pub mod Choices
pub mod DueNumbers
pub mod Parted
