pub mod FrameLaws
pub mod PlaceLaws
pub mod WriteLaws
pub mod OnwardLaws
pub mod TextLaws
mod Samples
