pub mod Moves
pub mod Noted
pub mod Turns
pub mod Playing
pub mod Rehearsal
