pub mod Stacks
pub mod Straights
pub mod Machines
pub mod References
pub mod Makings
