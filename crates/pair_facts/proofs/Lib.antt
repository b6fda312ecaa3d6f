pub mod FreshLaws
pub mod PlaceLaws
pub mod GroupLaws
pub mod OwnLaws
pub mod PathLaws
mod Samples
