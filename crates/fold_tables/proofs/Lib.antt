pub mod CountLaws
pub mod FoldLaws
pub mod LineLaws
pub mod StandLaws
pub mod ListLaws
pub mod CheckLaws
