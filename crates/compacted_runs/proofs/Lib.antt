pub mod EventLaws
pub mod CompactLaws
pub mod MachineLaws
mod Samples
