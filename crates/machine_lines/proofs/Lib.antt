pub mod WordLemmas
pub mod DecodeLemmas
pub mod AccessLemmas
pub mod DeniedLemmas
pub mod GoingLemmas
pub mod PhiLemmas
pub mod TargetLemmas
