pub mod Thinned
pub mod Runs
