pub mod ListLaws
pub mod LineLaws
pub mod CodeLaws
pub mod EntryLaws
pub mod SlotLaws
pub mod FoundLaws
pub mod WaitingLaws
