pub mod Results
pub mod ExpansionLaws
