pub mod Files
pub mod Refusals
pub mod Rows
pub mod Shown
