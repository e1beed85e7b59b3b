pub mod Admission
pub mod Kept
pub mod Laws
pub mod Slots
pub mod Table
