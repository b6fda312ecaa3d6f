pub mod Decided
pub mod Accepted
