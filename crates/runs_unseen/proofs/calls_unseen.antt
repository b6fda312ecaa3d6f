pub mod TaskLists
pub mod Arguments
pub mod StatepointLines
pub mod StatesWaiting
pub mod CallSteps
pub mod TaskSteps
