pub mod StandLaws
pub mod JudgeLaws
pub mod AnswerLaws
