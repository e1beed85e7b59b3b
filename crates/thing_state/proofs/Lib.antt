pub mod PlacedLists
pub mod InvocationLists
pub mod VersionLists
mod IdLaws
pub mod CallLaws
