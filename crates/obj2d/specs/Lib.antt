pub mod Attributes
pub mod ObjectLayer
pub mod ObjectLaws
pub mod ObjectPixels
pub mod Places
pub mod rows
