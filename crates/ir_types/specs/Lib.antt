pub mod Faults
pub mod FaultSet
pub mod FirstMissed
pub mod Answers
