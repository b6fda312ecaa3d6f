pub mod Summaries
pub mod Counts
pub mod Runs
