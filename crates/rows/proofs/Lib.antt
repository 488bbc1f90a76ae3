pub mod Span
pub mod Places
pub mod Listed
pub mod Groups
pub mod Fits
pub mod Laws
pub mod Written
