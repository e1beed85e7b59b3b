pub mod Writing
pub mod Replies
pub mod ReplyFronts
pub mod ReplySeen
