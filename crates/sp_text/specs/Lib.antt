pub mod Bytes
pub mod Fronts
pub mod Labels
pub mod Lines
pub mod Names
pub mod TokenAt
pub mod Tokens
