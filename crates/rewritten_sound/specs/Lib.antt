pub mod LeadsOut
pub mod Definite
pub mod WellFormed
pub mod Takes
pub mod Shape
pub mod Pairs
