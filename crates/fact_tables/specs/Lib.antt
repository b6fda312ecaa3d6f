pub mod Homes
pub mod Groups
pub mod Phis
pub mod Notes
pub mod Tables
