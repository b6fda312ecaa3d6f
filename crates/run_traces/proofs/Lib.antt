pub mod ChangeLemmas
pub mod WritingLemmas
