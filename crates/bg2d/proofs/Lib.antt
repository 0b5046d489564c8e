mod Words
pub mod AffineLemmas
pub mod FormLemmas
pub mod TilingLemmas
