pub mod Bases
pub mod DeoptLines
pub mod Spans
pub mod Waiting
