pub mod Hearing
pub mod Packets
