mod WithoutLemmas
pub mod SearchLemmas
