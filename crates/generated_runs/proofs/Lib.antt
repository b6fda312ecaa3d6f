pub mod Steps
pub mod Heaps
pub mod Shapes
pub mod Chain
pub mod Main
