pub mod Words
pub mod Places
pub mod Kinds
pub mod Arguments
pub mod Meaning
pub mod Telegrams
