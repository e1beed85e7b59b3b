pub mod PlainLaws
pub mod PlainSlots
