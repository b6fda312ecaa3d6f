mod LineLaws
mod PartLaws
