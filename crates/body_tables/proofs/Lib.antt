pub mod Values
pub mod UserLemmas
