pub mod Channels
pub mod Controls
pub mod States
pub mod Relations
pub mod Saved
