pub mod AffinePixels
pub mod TextPixels
pub mod rows
