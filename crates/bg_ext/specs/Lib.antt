pub mod BankPixels
pub mod ExtendedPixels
pub mod rows
