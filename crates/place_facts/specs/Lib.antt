pub mod Spots
pub mod Before
pub mod Phis
pub mod Asks
pub mod Keys
pub mod Asked
pub mod Answers
pub mod Laws
