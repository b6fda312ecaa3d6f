pub mod Resolved
pub mod TextFaults
pub mod ModuleFaults
pub mod FaultSet
