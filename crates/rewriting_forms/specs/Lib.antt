pub mod Numbered
pub mod Liveness
pub mod Names
pub mod Rewritten
