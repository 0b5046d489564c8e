mod Words
pub mod Allotted
pub mod CellLemmas
pub mod MapLaws
pub mod Mixes
pub mod PageLemmas
pub mod Puts
pub mod SetLaws
pub mod TableLemmas
pub mod WordNibbles
pub mod FormLemmas
pub mod PaletteLemmas
pub mod SavedLaws
