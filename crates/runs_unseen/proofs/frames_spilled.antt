pub mod TextLaws
pub mod RoomLaws
pub mod SpillLaws
pub mod GroupSlots
pub mod EntryPairs
pub mod WaitLaws
pub mod ResultLaws
