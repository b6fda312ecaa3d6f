pub mod Executors
pub mod Events
pub mod Traces
pub mod Answers
