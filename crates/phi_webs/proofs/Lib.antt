pub mod Samples
pub mod TestLemmas
pub mod RemovalLaws
pub mod OnlyLemmas
pub mod BecomesLaws
pub mod RenamingLaws
pub mod ForestLemmas
pub mod LookLemmas
