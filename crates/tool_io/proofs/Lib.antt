pub mod AppendLaws
pub mod CountLaws
pub mod KnownLaws
pub mod TakeLaws
