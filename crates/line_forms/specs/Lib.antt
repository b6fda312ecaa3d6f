pub mod Forms
pub mod Kept
pub mod Seen
pub mod Slots
