pub mod IntegerLemmas
pub mod CallLemmas
pub mod LineLemmas
pub mod DeclarationLemmas
pub mod TextLemmas
pub mod OperandLemmas
pub mod RunLemmas
