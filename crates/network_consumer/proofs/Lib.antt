pub mod DeedLaws
mod OrderLaws
mod OrderSteps
pub mod HearingLaws
pub mod AwaitingLaws
pub mod AskingLaws
pub mod ChoiceLaws
pub mod FailureLaws
