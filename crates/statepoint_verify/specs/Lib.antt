pub mod Tests
pub mod Kept
pub mod Marks
pub mod Judged
pub mod Least
pub mod Verdicts
