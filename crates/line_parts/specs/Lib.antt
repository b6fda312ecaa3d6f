pub mod Bundles
pub mod Drops
pub mod Gives
pub mod Groups
pub mod Lists
pub mod Parts
pub mod Seen
pub mod Types
