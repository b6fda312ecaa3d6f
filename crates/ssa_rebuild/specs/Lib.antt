pub mod Answers
pub mod Rows
pub mod Solved
pub mod Marks
pub mod Written
pub mod Arrivals
pub mod Versions
