pub mod Landings
pub mod Tables
pub mod Frames
pub mod Tasks
