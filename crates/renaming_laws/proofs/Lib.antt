pub mod ListLaws
pub mod RegisterLaws
pub mod FrontLaws
pub mod Related
pub mod CallLaws
pub mod StepLaws
pub mod ImageLaws
