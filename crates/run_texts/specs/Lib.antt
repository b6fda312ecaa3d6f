pub mod RunTexts
pub mod Statements
