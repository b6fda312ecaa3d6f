pub mod Pure
pub mod Foldable
pub mod Folded
pub mod Foldings
pub mod Simplified
pub mod Known
