pub mod NameLaws
pub mod RunLaws
