pub mod EncodedBytes
pub mod Targets
pub mod Members
pub mod Generation
mod Places
pub mod Paths
mod Forms
pub mod AffordanceForms
mod RootForms
pub mod OneThing
pub mod Things
pub mod Leading
mod RouteForms
mod Saying
mod ValidObjects
mod ToldThing
mod RootTold
mod ToldPaths
mod Told
