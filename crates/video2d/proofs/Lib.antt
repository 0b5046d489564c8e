mod Words
pub mod FrameLemmas
pub mod FrontLemmas
pub mod LineLemmas
pub mod PlainLemmas
pub mod SpanLemmas
pub mod StopLemmas
pub mod Framed
pub mod Colours
pub mod VideoLaws
pub mod SavedScans
pub mod SavedWalks
pub mod SavedPorts
pub mod SavedLoops
pub mod SavedKept
pub mod SavedLaws
