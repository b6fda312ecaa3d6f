pub mod SizeLemmas
pub mod CellLemmas
