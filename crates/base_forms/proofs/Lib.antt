pub mod MarkLaws
pub mod OriginLaws
pub mod DerivedLaws
pub mod PlacedLaws
mod Samples
