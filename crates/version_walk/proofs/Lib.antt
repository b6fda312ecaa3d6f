pub mod SlotLemmas
pub mod ForestLemmas
pub mod WalkLemmas
