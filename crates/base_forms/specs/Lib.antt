pub mod Polls
pub mod DerivedMarks
pub mod Inserted
pub mod Bases
pub mod Lines
pub mod Based
