pub mod Statements
pub mod Steps
