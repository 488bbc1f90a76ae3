pub mod Each
pub mod Refusals
pub mod Format
pub mod Sheet
pub mod Reader
pub mod Loading
pub mod Spelled
pub mod Writing
