pub mod Operations
pub mod Faults
pub mod Rows
pub mod Affordances
pub mod AffordanceCodes
pub mod Schemas
pub mod Order
pub mod ThingLists
