pub mod Founds
pub mod Cases
pub mod Mains
pub mod Phis
pub mod Groups
pub mod Bodies
pub mod FunctionFaults
