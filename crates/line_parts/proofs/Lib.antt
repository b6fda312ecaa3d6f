pub mod Dropping
pub mod Listing
pub mod Notes
mod Samples
pub mod Stopping
pub mod TokenCount
