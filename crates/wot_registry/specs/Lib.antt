pub mod Dates
pub mod Times
pub mod Registration
pub mod Registry
pub mod Kept
pub mod Laws
