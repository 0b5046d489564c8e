pub mod SinkLemmas
pub mod ShelfLemmas
pub mod CallLemmas
pub mod Pieces
pub mod Putting
