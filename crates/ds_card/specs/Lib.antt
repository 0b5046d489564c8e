pub mod CardPorts
pub mod Cards
pub mod Saved
pub mod TransferLaws
