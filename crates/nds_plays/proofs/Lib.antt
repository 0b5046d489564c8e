mod Words
pub mod Framing
pub mod Lengths
pub mod Playing
pub mod Rows
pub mod Saving
mod LinesOnce
pub mod Leads
pub mod Tracing
mod Bodies
pub mod Seating
pub mod Cuts
