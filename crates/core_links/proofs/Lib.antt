mod Values
mod Runs
mod Stands
mod Means
mod Outcomes
pub mod ReadsBack
