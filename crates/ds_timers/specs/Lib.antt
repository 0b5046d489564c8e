pub mod Irqs
pub mod Saved
pub mod Timing
