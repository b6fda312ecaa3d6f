pub mod NumberLaws
pub mod PairLaws
pub mod ValueLaws
pub mod FrameLaws
pub mod StackLaws
pub mod NameLaws
pub mod DeoptLaws
