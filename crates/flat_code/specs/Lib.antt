pub mod Actions
pub mod Flats
pub mod Spots
pub mod Edges
pub mod Segments
pub mod Opens
pub mod Codes
pub mod Straight
