pub mod Dids
pub mod Runs
pub mod Tables
