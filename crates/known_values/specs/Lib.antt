pub mod Onward
pub mod Meanings
pub mod Texts
pub mod Statements
pub mod Instances
