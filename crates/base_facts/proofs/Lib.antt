pub mod SettleLemmas
pub mod StepLemmas
pub mod PredLemmas
pub mod EdgeLemmas
pub mod AskedLemmas
pub mod ClosingLemmas
pub mod SourceLemmas
pub mod FinalLemmas
