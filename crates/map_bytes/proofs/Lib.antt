pub mod NumberLaws
pub mod FormatLaws
pub mod PartLaws
pub mod FilledLaws
pub mod FitsLaws
pub mod ReadLaws
pub mod MapLaws
pub mod EntryLaws
pub mod SmallLaws
mod Samples
