pub mod BaseLemmas
pub mod LineLemmas
pub mod NameLemmas
mod Samples
pub mod ValueLemmas
