pub mod StepLaws
pub mod NewLaws
pub mod MakingLaws
mod Samples
