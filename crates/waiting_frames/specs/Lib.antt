pub mod Frames
pub mod Shown
