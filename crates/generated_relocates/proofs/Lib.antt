pub mod Measures
pub mod Whole
