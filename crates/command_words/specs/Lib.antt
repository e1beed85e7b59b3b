pub mod Words
pub mod Flags
pub mod Grammar
pub mod Operations
pub mod Parts
pub mod Line
