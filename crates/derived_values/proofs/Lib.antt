pub mod UserLemmas
pub mod FunctionLemmas
