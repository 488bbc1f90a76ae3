pub mod Stored
pub mod Faults
pub mod Measured
pub mod Aimed
pub mod Restart
