pub mod SkipLaws
pub mod GoingOn
pub mod HelperSteps
