pub mod Renamed
pub mod Inserted
pub mod Images
pub mod Statements
