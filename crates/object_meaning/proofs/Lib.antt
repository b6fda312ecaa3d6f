pub mod BlockLaws
pub mod LineLaws
pub mod GivenLaws
pub mod RegisterLaws
pub mod ListLemmas
pub mod NumberLemmas
pub mod RunLaws
pub mod StepLaws
pub mod EndLaws
pub mod OutcomeLaws
mod Samples
pub mod AccessLaws
pub mod SimulationLaws
pub mod TaskLists
pub mod StandingLaws
pub mod WaitingLaws
