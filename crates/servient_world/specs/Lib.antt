pub mod World
pub mod Led
pub mod Laws
pub mod Rows
pub mod Examples
