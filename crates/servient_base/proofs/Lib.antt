pub mod Lists
pub mod DecimalTexts
pub mod EncodedBytes
pub mod MovesLaws
pub mod Pieces
pub mod PortTexts
