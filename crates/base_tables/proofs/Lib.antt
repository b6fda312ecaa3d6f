pub mod UserLemmas
pub mod OriginLemmas
pub mod ShapeLemmas
pub mod DefinitionLemmas
pub mod TableLemmas
pub mod UnchangedLemmas
