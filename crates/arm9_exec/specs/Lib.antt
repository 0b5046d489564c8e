pub mod Arm9
pub mod Coprocessors
pub mod Stopped
pub mod Statuses
