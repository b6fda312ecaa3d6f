pub mod Codes
pub mod Formats
pub mod Tables
pub mod Maps
pub mod Faults
pub mod Reads
pub mod Fits
pub mod Entries
