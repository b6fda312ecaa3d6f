pub mod FamilyLines
pub mod Openings
pub mod Operators
mod Samples
pub mod Segments
