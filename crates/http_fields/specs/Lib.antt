pub mod Marks
pub mod Fields
pub mod Framings
pub mod Chunks
pub mod Bodies
pub mod Pieces
pub mod Found
pub mod BodySeen
