pub mod Changed
pub mod Due
pub mod Counts
pub mod Found
mod Tokens
pub mod KnownOfObservers
mod KnownAfterCalls
pub mod AccountLaws
pub mod CallLaws
mod NumberLaws
mod SendingLaws
mod SlotLaws
mod KeptLaws
mod PlaceLaws
mod WalkLaws
mod CallUses
mod ViewLaws
mod WatchedLaws
mod SendLaws
mod UnsentLaws
