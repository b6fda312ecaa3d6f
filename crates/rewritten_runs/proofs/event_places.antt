pub mod StepLaws
pub mod RunLaws
