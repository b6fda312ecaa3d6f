pub mod Ends
pub mod Visits
mod Samples
