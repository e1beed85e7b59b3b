pub mod System
pub mod SystemMemory
