pub mod TestLemmas
pub mod MarkLemmas
pub mod JudgeLemmas
pub mod LeastLemmas
