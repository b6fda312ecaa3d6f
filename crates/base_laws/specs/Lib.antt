pub mod PollsPlaced
pub mod BeforeLiveness
pub mod Statements
