pub mod Faults
pub mod Homes
pub mod Asked
pub mod FarUses
pub mod Missed
pub mod Tiny
pub mod Straight
