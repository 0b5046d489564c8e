pub mod EffectLemmas
pub mod LaneLemmas
pub mod NibbleLemmas
pub mod RowLemmas
pub mod SecondLemmas
pub mod ClearLemmas
pub mod ProductLemmas
