pub mod PickLaws
pub mod NumberLaws
pub mod FunnelLaws
pub mod Samples
