pub mod Trims
pub mod Groups
pub mod Trimmed
pub mod Statements
