pub mod Texts
pub mod Lifted
pub mod LiftLaws
