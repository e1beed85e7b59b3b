pub mod Forms
pub mod Ops
pub mod OpCodes
pub mod FormCodes
pub mod Generated
pub mod FormsPatch
pub mod Segments
