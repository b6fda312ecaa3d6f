pub mod Groups
pub mod Marked
pub mod Texts
pub mod Lines
pub mod Renumbered
pub mod Ranks
pub mod Calls
