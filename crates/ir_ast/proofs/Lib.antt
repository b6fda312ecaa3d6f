pub mod BaseLemmas
pub mod BlockLemmas
pub mod CellLaws
pub mod SizeLaws
pub mod OpLaws
pub mod FuncLaws
mod Samples
