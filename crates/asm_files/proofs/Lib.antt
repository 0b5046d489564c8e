mod Words
pub mod PathLaws
pub mod TextLaws
pub mod FrontLaws
pub mod LoopLaws
pub mod PageLaws
