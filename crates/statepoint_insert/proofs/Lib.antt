pub mod RankLaws
pub mod ListLaws
pub mod BoundLaws
pub mod LineLaws
pub mod CallLaws
pub mod TextLaws
pub mod OldNames
pub mod PlainLaws
mod Samples
