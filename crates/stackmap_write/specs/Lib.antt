pub mod Constants
pub mod ModuleMaps
pub mod Writing
pub mod TargetMaps
pub mod Sizes
