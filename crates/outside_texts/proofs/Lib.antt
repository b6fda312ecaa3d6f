pub mod PlacedLines
pub mod Evidence
