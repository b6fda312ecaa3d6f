pub mod ReturnLemmas
pub mod LayoutLemmas
mod Samples
