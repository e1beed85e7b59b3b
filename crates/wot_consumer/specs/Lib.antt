pub mod Operations
pub mod Places
pub mod Choice
pub mod Messages
pub mod Discovery
pub mod Judgement
