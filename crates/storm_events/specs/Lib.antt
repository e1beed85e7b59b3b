pub mod Generator
pub mod Datagrams
pub mod Storm
