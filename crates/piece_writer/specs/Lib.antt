pub mod LinePuts
pub mod Lists
pub mod Writing
pub mod WritingLaws
