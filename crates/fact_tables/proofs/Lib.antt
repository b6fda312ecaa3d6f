pub mod LineLemmas
pub mod HomeLemmas
pub mod NoteLemmas
pub mod InstLemmas
pub mod GroupLemmas
pub mod PhiLemmas
pub mod TableLemmas
