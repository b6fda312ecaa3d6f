pub mod Runs
pub mod Statements
pub mod Places
pub mod PlacedRuns
pub mod ShownTexts
pub mod ShownStatements
