pub mod BundleLemmas
pub mod FrameLemmas
pub mod WordLemmas
