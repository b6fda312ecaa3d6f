pub mod Lines
pub mod Uses
pub mod Names
pub mod Phis
pub mod Functions
pub mod Main
pub mod Whole
