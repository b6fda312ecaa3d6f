pub mod TraceLaws
pub mod EventLaws
pub mod ShownLaws
pub mod StepLaws
pub mod LineCases
pub mod RunSteps
pub mod SeenRuns
