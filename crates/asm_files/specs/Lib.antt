pub mod Listings
pub mod Reader
pub mod Writer
