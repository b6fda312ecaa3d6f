pub mod GivesLaws
pub mod UndefinedLaws
pub mod StayLaws
