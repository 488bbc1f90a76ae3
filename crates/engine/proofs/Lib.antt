pub mod Twenty
pub mod Shown
pub mod Addressed
pub mod Places
pub mod Resets
