pub mod Givens
pub mod Deriveds
pub mod Users
