pub mod Decoding
pub mod Lines
pub mod Going
