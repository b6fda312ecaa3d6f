pub mod Draws
pub mod Lines
pub mod Shapes
pub mod Bodies
pub mod Modules
