pub mod Lanes
pub mod Matrices
pub mod Nibbles
pub mod Pixels
pub mod Seconds
