mod Words
pub mod FormLemmas
pub mod LayerLemmas
pub mod OffLemmas
pub mod StripLemmas
