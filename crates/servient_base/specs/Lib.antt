pub mod Count
pub mod Encoding
pub mod Location
pub mod Moves
pub mod Writing
pub mod HostPorts
