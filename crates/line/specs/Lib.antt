pub mod Round
pub mod Serials
pub mod Calls
pub mod Stretch
