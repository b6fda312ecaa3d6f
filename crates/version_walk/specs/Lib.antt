pub mod Slots
pub mod Packed
pub mod Versions
pub mod Forest
pub mod Walks
