pub mod GroupLaws
pub mod ResumeLaws
pub mod StateLaws
