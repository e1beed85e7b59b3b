pub mod Links
pub mod Writing
pub mod Steps
