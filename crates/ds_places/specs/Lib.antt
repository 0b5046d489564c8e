pub mod AddressTables
pub mod BootRom
pub mod Waits
