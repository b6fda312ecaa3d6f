pub mod Values
pub mod Sets
pub mod Uses
pub mod Starts
pub mod Ends
pub mod Lists
pub mod Joins
