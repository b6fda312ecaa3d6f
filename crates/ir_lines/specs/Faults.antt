-- The faults, each in a file of its name: which lines have one.
pub mod NameTwice
pub mod UnknownName
pub mod TypeClash
pub mod NoStrategy
pub mod NoMain
pub mod UnknownExtern
pub mod BadLayout
pub mod Reserved
pub mod PointerCast
pub mod GroupShape
