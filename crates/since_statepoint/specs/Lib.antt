pub mod Regions
pub mod Splits
