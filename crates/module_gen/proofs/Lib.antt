pub mod DrawLaws
pub mod BodyLaws
