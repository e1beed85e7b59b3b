pub mod Findings
pub mod TableRows
pub mod AffordanceLists
pub mod ValidParts
pub mod PlaceOrder
pub mod SchemaPlaces
pub mod RowOrder
