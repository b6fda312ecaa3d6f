pub mod LineLemmas
pub mod CodeLemmas
pub mod FrameLemmas
pub mod SlotLemmas
pub mod LandingLemmas
