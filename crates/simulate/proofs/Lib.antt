pub mod Digits
pub mod Words
pub mod Bytes
pub mod Question
pub mod Brought
pub mod Shown
pub mod Racked
pub mod Lines
