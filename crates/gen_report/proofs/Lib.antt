pub mod FlipLaws
pub mod CountLaws
pub mod SummaryLaws
