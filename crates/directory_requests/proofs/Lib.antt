pub mod EntryPaths
pub mod JudgeLaws
pub mod TaskLaws
pub mod DigitLaws
pub mod StandingLaws
mod Places
