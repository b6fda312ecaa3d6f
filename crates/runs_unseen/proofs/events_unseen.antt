pub mod TaskLaws
pub mod EventLaws
pub mod SwitchLaws
pub mod PollSteps
pub mod ObjectLaws
pub mod ObjectSteps
