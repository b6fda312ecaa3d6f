pub mod Kinds
pub mod Seen
pub mod Users
pub mod Origins
pub mod Flags
pub mod Tables
