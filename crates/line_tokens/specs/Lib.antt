pub mod Families
pub mod Marks
pub mod Numbers
pub mod Words
