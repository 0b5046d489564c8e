mod Words
pub mod FormLemmas
pub mod HalfLemmas
pub mod LevelLemmas
pub mod StraightLemmas
