pub mod Waits
pub mod Progress
