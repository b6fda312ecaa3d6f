pub mod Room
pub mod AtPoints
pub mod Ready
