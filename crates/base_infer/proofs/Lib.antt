pub mod LineLemmas
pub mod AgreeLemmas
pub mod ApartLemmas
