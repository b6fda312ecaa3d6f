pub mod GroupLaws
pub mod ValueLaws
pub mod EndLaws
pub mod BaseLaws
pub mod TableLaws
pub mod TableInstance
