pub mod Placed
pub mod Known
pub mod Built
pub mod Founds
pub mod Lost
