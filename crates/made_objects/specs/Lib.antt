pub mod Makings
pub mod Packed
pub mod Runs
pub mod Statements
