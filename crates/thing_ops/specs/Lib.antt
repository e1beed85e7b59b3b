pub mod Conditions
pub mod Outcomes
pub mod Requests
pub mod Routes
pub mod Segments
pub mod Verbs
