pub mod FirstLemmas
pub mod PathLaw
pub mod AnswerLaws
