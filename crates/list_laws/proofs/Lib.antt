pub mod Booleans
pub mod Options
pub mod Places
pub mod Contents
pub mod Ranges
pub mod Tests
pub mod Zips
pub mod Numbers
