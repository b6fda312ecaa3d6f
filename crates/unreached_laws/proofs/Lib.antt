pub mod RegisterLaws
pub mod Keepings
pub mod PhiLaws
pub mod Related
pub mod FrameLaws
pub mod CallLaws
pub mod StepLaws
pub mod RunLaws
pub mod BlockLines
pub mod ModuleLaws
pub mod MeaningLaws
pub mod ReachedLaws
pub mod MarkLaws
mod Samples
