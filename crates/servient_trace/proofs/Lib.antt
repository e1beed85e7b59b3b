pub mod TraceLaws
pub mod ShownLaws
