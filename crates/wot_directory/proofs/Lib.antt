pub mod Entries
pub mod Numbers
pub mod Puts
pub mod Lists
pub mod Finds
pub mod EntryLaws
pub mod Copies
