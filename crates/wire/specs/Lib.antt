pub mod Word
pub mod Check
pub mod Faults
pub mod Telegram
