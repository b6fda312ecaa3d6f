pub mod AllOf
pub mod Counting
pub mod FittingLines
pub mod JudgedOnce
pub mod Judging
pub mod LineByLine
pub mod Weaving
