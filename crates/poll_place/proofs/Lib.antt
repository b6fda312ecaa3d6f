pub mod PlacedLemmas
pub mod PointLemmas
pub mod ReadyLemmas
