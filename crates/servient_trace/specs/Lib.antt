pub mod Trace
pub mod ShownSections
