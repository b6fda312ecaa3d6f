pub mod Closings
pub mod Names
pub mod Notes
pub mod MapTexts
pub mod RunLines
