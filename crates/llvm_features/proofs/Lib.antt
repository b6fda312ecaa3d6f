pub mod RowLemmas
pub mod Samples
