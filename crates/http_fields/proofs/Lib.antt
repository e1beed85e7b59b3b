pub mod Places
pub mod FieldLines
pub mod Digits
pub mod ChunkRows
pub mod FoundMarks
pub mod MoreData
pub mod FewerBytes
