pub mod Typed
pub mod Meant
pub mod Addresses
pub mod Exchange
pub mod Premises
pub mod Talks
pub mod Wrong
