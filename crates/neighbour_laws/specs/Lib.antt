pub mod Askers
pub mod Neighbours
pub mod Converging
pub mod Resting
