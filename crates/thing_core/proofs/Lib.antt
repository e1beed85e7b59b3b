pub mod PlacedLists
pub mod ThingLaws
pub mod VersionRuns
pub mod VersionLaws
pub mod MoveLaws
pub mod ReadLaws
pub mod ReadLoop
pub mod WriteLoop
pub mod PollLaws
pub mod InvokeLaws
pub mod RefusalLaws
pub mod SlotLaws
pub mod LastLaws
pub mod PerformLaws
pub mod Handed
pub mod CompleteLaws
pub mod ApartLaws
pub mod DeterminedLaws
mod TagLaws
mod TickLaws
mod RoundLaws
