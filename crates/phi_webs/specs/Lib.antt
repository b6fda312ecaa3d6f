pub mod Webs
pub mod Becomes
pub mod Statements
pub mod Forests
pub mod Settled
