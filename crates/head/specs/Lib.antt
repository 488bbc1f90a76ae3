pub mod Hear
pub mod Moves
pub mod Refusals
pub mod Calls
pub mod Outcome
