pub mod Pairs
pub mod PairLaws
pub mod TrimRegisters
pub mod TrimFronts
pub mod TrimFrames
pub mod TrimSteps
pub mod TrimLaws
pub mod ReadLaws
mod Samples
