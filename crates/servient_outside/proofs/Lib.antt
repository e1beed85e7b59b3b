pub mod GivenEvents
pub mod ToldLaws
pub mod NetLaws
pub mod OrderLaws
pub mod ActsKept
pub mod FilesLaws
pub mod OutLaws
