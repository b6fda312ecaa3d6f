pub mod Names
pub mod Waypoints
pub mod Externals
pub mod Called
