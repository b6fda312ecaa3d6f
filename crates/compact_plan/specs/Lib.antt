pub mod Compacting
pub mod Packed
pub mod Promises
