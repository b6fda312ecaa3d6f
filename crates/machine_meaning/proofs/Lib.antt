pub mod AddressLaws
pub mod SlotLaws
pub mod CheckLaws
pub mod SettledLaws
pub mod PlaceLaws
pub mod OutcomeLaws
mod Samples
