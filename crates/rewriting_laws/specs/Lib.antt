pub mod Laws
pub mod Related
pub mod Statements
pub mod Removals
