pub mod Table
pub mod Reading
pub mod AskSeen
pub mod Found
