pub mod CaseLemmas
pub mod Bodies
pub mod Sizes
pub mod ArgumentLists
pub mod BuiltLemmas
pub mod Placing
pub mod TypeLists
pub mod Founds
mod KeptLines
pub mod LostLemmas
pub mod LostNotes
pub mod ScopeLemmas
