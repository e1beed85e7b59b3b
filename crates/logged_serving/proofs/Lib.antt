pub mod LogTexts
pub mod Counting
pub mod LoggedRounds
