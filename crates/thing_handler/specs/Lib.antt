pub mod Handler
pub mod InMemory
pub mod JobChanges
pub mod Shipped
pub mod Turns
