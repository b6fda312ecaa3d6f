pub mod TopFaults
pub mod Rows
pub mod Lost
pub mod Parts
pub mod Built
