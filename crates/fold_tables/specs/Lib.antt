pub mod Counts
pub mod Ends
pub mod Lines
pub mod Actions
pub mod Checks
