pub mod Founds
pub mod Zips
pub mod CaseLemmas
pub mod MainLemmas
pub mod CountLemmas
pub mod EdgeLemmas
pub mod PhiLemmas
pub mod Union
pub mod GroupLemmas
mod Escapes
mod SoundLines
