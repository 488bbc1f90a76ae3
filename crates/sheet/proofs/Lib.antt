pub mod Each
pub mod Spelled
pub mod Bytes
pub mod Sheets
pub mod Meant
pub mod HandsOut
pub mod Written
pub mod Loads
