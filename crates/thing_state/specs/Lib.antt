pub mod State
pub mod Rooms
pub mod Course
pub mod Places
pub mod Calls
pub mod Keeping
pub mod Ids
