pub mod Asked
pub mod Window
pub mod Items
pub mod Requests
pub mod Judged
