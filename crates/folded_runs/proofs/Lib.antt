pub mod CountLaws
pub mod BlockCounts
pub mod CutLaws
pub mod PureLaws
pub mod FoldCuts
pub mod TableCuts
pub mod FoldReads
pub mod ModuleLaws
pub mod TableRuns
mod Samples
