pub mod LineCounts
pub mod EffectLaws
pub mod CallLaws
pub mod StepLaws
pub mod EndLaws
pub mod PrintLaws
