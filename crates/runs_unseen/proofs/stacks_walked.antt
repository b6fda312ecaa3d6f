pub mod ClosedLaws
pub mod WalkLaws
