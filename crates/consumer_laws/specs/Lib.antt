pub mod Asking
pub mod Choosing
pub mod Replying
pub mod Outputs
pub mod Consuming
