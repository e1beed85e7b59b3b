pub mod Forgetting
pub mod JobLaws
pub mod RackLaws
mod Slots
pub mod TurnLaws
