pub mod EndLemmas
pub mod LineLaws
pub mod RowLemmas
pub mod SinkLemmas
