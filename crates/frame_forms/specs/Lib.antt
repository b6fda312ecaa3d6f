pub mod Groups
pub mod CodeAddresses
pub mod FrameSizes
pub mod BundleWords
pub mod ModuleLayouts
