pub mod Comings
pub mod Paths
pub mod Relations
pub mod Statements
