pub mod HistoryLaws
pub mod KeptLaws
pub mod ListLaws
pub mod OverLaws
pub mod SlotLaws
pub mod SlotUses
pub mod TableLaws
