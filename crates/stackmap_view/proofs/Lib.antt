pub mod LoopLaws
pub mod StepLaws
pub mod RecordLaws
pub mod WalkLaws
pub mod ViewLaws
pub mod LookLaws
pub mod IndexLaws
mod Samples
