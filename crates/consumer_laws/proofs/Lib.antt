pub mod HeadLines
pub mod HeadBytes
pub mod Targets
pub mod RequestHeads
mod RequestsRead
mod Pieces
mod GeneratedForms
mod Choices
mod WhatWasChosen
mod ReplyHeads
mod RepliesRead
mod Outputs
mod Printing
mod Consuming
