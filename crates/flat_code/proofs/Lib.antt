pub mod SizeLemmas
pub mod RegisterLemmas
pub mod PhiLemmas
pub mod LineLemmas
pub mod DecodeLemmas
pub mod CodeLemmas
pub mod StraightLemmas
