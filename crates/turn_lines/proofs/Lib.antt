pub mod Putting
pub mod Flushed
pub mod QuietLines
