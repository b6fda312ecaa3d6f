pub mod Lines
pub mod Pairs
pub mod Paths
pub mod Segments
pub mod Uses
pub mod Faults
pub mod Laws
