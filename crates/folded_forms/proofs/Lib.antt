pub mod EntryLaws
pub mod TableLaws
pub mod SupportLaws
pub mod FoldingLaws
pub mod PhiLaws
mod Samples
