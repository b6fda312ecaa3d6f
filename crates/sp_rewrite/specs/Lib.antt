pub mod Before
pub mod Relocates
pub mod Statements
pub mod Removals
