pub mod Changes
pub mod Happenings
