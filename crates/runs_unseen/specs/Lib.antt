pub mod WaitingStates
pub mod MachineEnds
pub mod Runs
pub mod Statements
