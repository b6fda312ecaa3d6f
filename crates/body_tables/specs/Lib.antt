pub mod Bodies
pub mod Derivations
