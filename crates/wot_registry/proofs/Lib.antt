mod Days
mod Digits
mod Start
mod Moments
mod Members
mod Names
mod KeptTimes
mod Expiring
mod Due
pub mod Standing
pub mod HistoryLaws
pub mod FullLaws
mod CallLaws
mod Listed
