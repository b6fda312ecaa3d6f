pub mod AnyLemmas
pub mod MarkLemmas
pub mod NameLemmas
pub mod PlaceLemmas
pub mod WaypointLemmas
