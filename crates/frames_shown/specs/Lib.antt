pub mod Shown
pub mod Statements
