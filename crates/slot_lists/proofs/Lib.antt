pub mod Among
pub mod Linking
pub mod Neighbours
pub mod Counts
