pub mod Whole
pub mod Filled
pub mod Rounds
pub mod Turns
pub mod Ways
pub mod Theorems
