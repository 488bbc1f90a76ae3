pub mod Commands
pub mod Checks
pub mod Verdicts
pub mod Deeds
pub mod Judged
