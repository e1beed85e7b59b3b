pub mod BodyLaws
pub mod Joining
pub mod Lists
pub mod PartLaws
pub mod Paths
pub mod Places
