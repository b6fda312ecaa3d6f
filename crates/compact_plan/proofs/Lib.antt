pub mod PackLemmas
pub mod LineLaws
pub mod PlanLaws
pub mod HeapLaws
mod Samples
