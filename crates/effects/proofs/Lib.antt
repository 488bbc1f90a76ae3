pub mod Resets
pub mod Values
pub mod Keeps
pub mod Turns
pub mod Serial
