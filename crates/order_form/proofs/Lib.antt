pub mod Places
pub mod Repeats
pub mod Kept
pub mod Held
pub mod Claims
pub mod Demands
pub mod Only
pub mod Wrongs
