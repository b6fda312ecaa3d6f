-- The faults of a module, each in a file of its name: what has none.
pub mod TypeClash
pub mod PhiEdges
pub mod EntryHasPred
pub mod BadLayout
pub mod NameTwice
pub mod DerivedEscapes
pub mod NoMain
pub mod Reserved
pub mod PointerOrder
pub mod UnknownName
pub mod GroupShape
