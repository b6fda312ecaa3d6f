pub mod AnswerLaws
pub mod ReturnSteps
