pub mod TableLemmas
pub mod BlockLemmas
