pub mod RangeLaws
pub mod EndLaws
pub mod VersionLaws
pub mod NumberLaws
pub mod TextLaws
pub mod EntryLaws
