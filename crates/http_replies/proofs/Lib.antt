pub mod ReplyHeads
pub mod ReplySteps
pub mod ReplyLines
pub mod OneReply
