pub mod RewrittenLaws
pub mod MakingLaws
pub mod CallLaws
pub mod RemovalLaws
