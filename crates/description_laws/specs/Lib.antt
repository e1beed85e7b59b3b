pub mod Encoding
pub mod Leading
pub mod Taking
