pub mod RunLemmas
pub mod StartLemmas
pub mod StepLemmas
pub mod TableLemmas
