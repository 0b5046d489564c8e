pub mod Frames
pub mod Fronts
pub mod Needs
pub mod Plain
pub mod Shown
